-- No position of a variable that was found wraps.
use Prim.Native.Nat.{ℕ, zero, suc, ◌+◌, ◌-◌, ◌*◌, ◌≤◌, ◌<◌}
use native.Mathlib.Omega.{arith}
use native.Mathlib.Nat.{mul-le-mul_right, zero-mul}
use mathlib.Core.Path.{◌≡◌, refl, sym, subst}
use mathlib.Core.Bool.{Bool, true, false, cond}
use lib.Dec.{eqb}
use borrow.Author.Tests.{ne_eqb, leb-true, ltb-true}
use Rattle.items.specs.Types.{size_of}
use Rattle.grammar.specs.Tables.{var_at}
use Rattle.grammar.specs.declared.tables.Tables.{Tables}
use Rattle.sizes.specs.Records.{is_record, chunk, chunk_bytes, padded_bytes, max_position, end_of, ends_hold}
use Rattle.cdf.proofs.Laws.Below.{holds_at}
use Rattle.found.specs.Sought.{spread, sought}
use Rattle.found.proofs.Laws.Sought.{Holds, tables-parts}
use Rattle.cdf.specs.Step.{got}
use Rattle.cdf.proofs.Laws.Step.{test-came, got_same}
use Rattle.reads.specs.Inner.Bounded.{Bounded}
use Rattle.found.specs.declared.variable.Spread.{Spread}

ends-bound : (records : Bool) (begin padded step n bytes r : ℕ) → bytes ≤ padded → cond records (cond (eqb n 0) begin (begin + (n - 1) * step + padded)) (begin + padded) ≤ max_position → r < cond records n 1
    → begin + r * step + bytes ≤ max_position
ends-bound true begin padded step zero bytes r h e l = absurd (omega arith)
ends-bound true begin padded step (suc n) bytes r h e l =
    let some : eqb (suc n) 0 ≡ false = ne_eqb (suc n) 0 (λ z. omega arith) in
    let f : begin + (suc n - 1) * step + padded ≤ max_position = subst (λ (b : Bool). cond b begin (begin + (suc n - 1) * step + padded) ≤ max_position) some e in
    let g : r * step ≤ (suc n - 1) * step = mul-le-mul_right step (omega arith) in
    omega arith
ends-bound false begin padded step n bytes r h e l = let z : r ≡ 0 = omega arith in rw (z, zero-mul) (omega arith)

module _ (t : Tables) (h : Holds t) (i : ℕ) (inside : i < t.nvars) where
  bounded-row : Bounded (spread t (var_at t i))
  unfolding spread padded_bytes chunk_bytes ends_hold
  bounded-row =
      record {
        ends = λ r l. ends-bound (is_record t.dims (var_at t i)) _ (padded_bytes t.dims (var_at t i)) _ t.count _ r bytes-less end-less l;
        size = refl;
        low = (h.shape.rows i inside).low;
        high = (h.shape.rows i inside).high;
      }
    where
      bytes-less : chunk t.dims (var_at t i) * size_of (var_at t i).code ≤ padded_bytes t.dims (var_at t i)
      bytes-less = omega arith

      end-less : end_of t t.count (var_at t i) ≤ max_position
      end-less = leb-true _ _ (holds_at _ t.nvars i h.ends inside)

pub found : (t : Tables) (i : ℕ) {v : Spread} {n : ℕ} → got v n ≡ sought t i → Bounded v
unfolding sought
found t i e =
    let p = test-came 23 0 e in
    let q = test-came 16 0 p.1 in
    subst (λ (u : Spread). Bounded u) (sym (got_same q.1)) (bounded-row t (tables-parts t p.0) i (ltb-true _ _ q.0))
