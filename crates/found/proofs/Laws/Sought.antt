-- Laws of the variable that a read asks for.
use Prim.Native.Nat.{ℕ, ◌≤◌, ◌<◌}
use native.Mathlib.Omega.{arith}
use native.Mathlib.Nat.{le-mul_of_pos_right}
use mathlib.Core.Path.{◌≡◌, refl, sym, ap, ◌∙◌}
use mathlib.Core.Bool.{true, false, cond}
use borrow.Author.Tests.{le-leb, leb-true, lt-ltb, le-ltb, eqb-true}
use Rattle.cdf.specs.Below.{all_below}
use Rattle.cdf.specs.Step.{got, stop}
use Rattle.cdf.proofs.Laws.Below.{both, holds_at}
use Rattle.cdf.proofs.Laws.Step.{by-true, by-false, bind-came, test-came, got_same}
use Rattle.items.specs.Types.{size_of}
use Rattle.grammar.specs.Tables.{var_at}
use Rattle.grammar.specs.Inner.Within.{Shaped}
use Rattle.grammar.specs.declared.tables.Var.{Var}
use Rattle.grammar.specs.declared.tables.Tables.{Tables}
use Rattle.model.specs.Model.{ids_hold}
use Rattle.sizes.specs.Records.{is_record, chunk, chunk_bytes, padded_bytes, record_size, max_chunk, sizes_hold, ends_hold}
use Rattle.sizes.specs.Inner.Sizes.{capped}
use Rattle.sizes.proofs.Laws.Records.{capped-in, chunk_in}
use Rattle.items.proofs.Laws.Types.{size-pos}
use Rattle.found.specs.Sought.{shape_holds, tables_hold, spread, sought, sought_as}
use Rattle.found.specs.Inner.Row.{row_holds}
use Rattle.found.specs.declared.variable.Spread.{Spread}

module _ (t : Tables) where
  pub shape-is : t.ndims ≤ 32 → t.nvars ≤ 64 → all_below t.nvars (λ i. row_holds (var_at t i)) ≡ shape_holds t
  unfolding shape_holds
  shape-is dims vars = rw (le-leb t.ndims 32 dims, le-leb t.nvars 64 vars)

  shape-parts : shape_holds t ≡ true → (t.ndims ≤ 32) × (t.nvars ≤ 64) × (all_below t.nvars (λ i. row_holds (var_at t i)) ≡ true)
  unfolding shape_holds
  shape-parts e =
      let p = both _ _ e in
      let q = both _ _ p.1 in
      (leb-true _ _ p.0, leb-true _ _ q.0, q.1)

  pub shaped : shape_holds t ≡ true → Shaped t
  shaped e =
      let p = shape-parts e in
      record {
        dims = p.0;
        vars = p.1;
        rows =
            λ i h.
            let r = both _ _ (holds_at _ t.nvars i p.2 h) in
            let c = both _ _ r.1 in
            record { rank = leb-true _ _ r.0; low = leb-true _ _ c.0; high = leb-true _ _ c.1 };
      }

  -- the tests of number 23, one after the other
  pub tables-shape : shape_holds t ≡ false → false ≡ tables_hold t
  unfolding tables_hold
  tables-shape e = sym (rw e)

  module _ (shape : shape_holds t ≡ true) where
    pub tables-ids : ids_hold t ≡ false → false ≡ tables_hold t
    unfolding tables_hold
    tables-ids e = sym (rw (shape, e))

    module _ (ids : ids_hold t ≡ true) where
      pub tables-sizes : sizes_hold t ≡ false → false ≡ tables_hold t
      unfolding tables_hold
      tables-sizes e = sym (rw (shape, ids, e))

      pub tables-ends : sizes_hold t ≡ true → ends_hold t t.count ≡ tables_hold t
      unfolding tables_hold
      tables-ends e = sym (rw (shape, ids, e))

  pub record Holds : Type 0 where
    pub shape : Shaped t
    pub ids : ids_hold t ≡ true
    pub sizes : sizes_hold t ≡ true
    pub ends : ends_hold t t.count ≡ true

  pub tables-parts : tables_hold t ≡ true → Holds
  unfolding tables_hold
  tables-parts e =
      let p = both _ _ e in
      let q = both _ _ p.1 in
      let r = both _ _ q.1 in
      record { shape = shaped p.0; ids = q.0; sizes = r.0; ends = r.1 }

  -- what a variable of tables that hold comes to
  module _ (h : Holds) (i : ℕ) (inside : i < t.nvars) where
    pub chunk_small : chunk t.dims (var_at t i) ≤ max_chunk
    unfolding chunk_bytes padded_bytes
    chunk_small =
        let p = chunk_in t h.sizes i inside in
        let w = le-mul_of_pos_right (chunk t.dims (var_at t i)) (size-pos (var_at t i).code (h.shape.rows i inside).low (h.shape.rows i inside).high) in
        omega arith

-- the answers of the function that finds a variable
module _ (t : Tables) (i : ℕ) where
  pub sought-tables : tables_hold t ≡ false → stop 23 0 ≡ sought t i
  unfolding sought
  sought-tables e = by-false _ e refl

  module _ (hold : tables_hold t ≡ true) where
    pub sought-none : t.nvars ≤ i → stop 16 0 ≡ sought t i
    unfolding sought
    sought-none h = by-true _ hold (by-false _ (le-ltb i t.nvars h) refl)

    pub sought-got : {v : Spread} → i < t.nvars → v ≡ spread t (var_at t i) → got v 0 ≡ sought t i
    unfolding sought
    sought-got h e = by-true _ hold (by-true _ (lt-ltb i t.nvars h) (ap (λ (v : Spread). got v 0) e))

-- the variable of a typed read is the one that is sought, and has the type
pub typed-came : (code : ℕ) (t : Tables) (i : ℕ) {v : Spread} {m : ℕ} → got v m ≡ sought_as code t i → {Q : Type 0} → ((n : ℕ) → got v n ≡ sought t i → v.code ≡ code → Q) → Q
unfolding sought_as
typed-came code t i {v} e {Q} k =
    bind-came (sought t i) _ e Q
    (λ u n f g.
    let q = test-came 17 0 g in
    let same : v ≡ u = got_same q.1 in
    k n (ap (λ (x : Spread). got x n) same ∙ f) (ap (λ (x : Spread). x.code) same ∙ eqb-true _ _ q.0))

pub described : (t : Tables) (v : Var) {n s c w : ℕ} → n ≡ cond (is_record t.dims v) t.count 1 → s ≡ record_size t → c ≡ capped (chunk t.dims v) → chunk t.dims v ≤ max_chunk
    → w ≡ size_of v.code → record { begin = v.begin; records = n; step = s; chunk = c; width = w; code = v.code } ≡ spread t v
unfolding spread
described t v e f g l h = rw (e, f, h, g ∙ capped-in (chunk t.dims v) l)
