-- Laws of a variable that is kept: its test, its answers, and that one which was found passes.
use Prim.Native.Nat.{ℕ, ◌+◌, ◌-◌, ◌*◌, ◌≤◌}
use native.Mathlib.Omega.{arith}
use native.Mathlib.Nat.{mul-le-mul_right}
use mathlib.Core.Path.{◌≡◌, refl, sym, ap, subst, ◌∙◌}
use mathlib.Core.Bool.{Bool, true, false, ◌&&◌, ◌||◌}
use lib.Dec.{leb, eqb}
use borrow.Author.Tests.{le-leb, leb-true, eq-eqb, ne_eqb, eqb-true, eqb-false}
use Rattle.cdf.specs.Below.{between}
use Rattle.cdf.specs.Step.{Step, got, stop, bind}
use Rattle.cdf.proofs.Laws.Below.{both}
use Rattle.cdf.proofs.Laws.Step.{by-true, bind-came, test-came, got_same}
use Rattle.items.specs.Types.{size_of}
use Rattle.sizes.specs.Records.{max_position}
use Rattle.grammar.specs.declared.tables.Tables.{Tables}
use Rattle.found.specs.Sought.{sought, sought_as}
use Rattle.reads.specs.Kept.{whole_bytes, spread_holds, kept, kept_as}
use Rattle.reads.specs.Inner.Bounded.{Bounded}
use Rattle.found.specs.declared.variable.Spread.{Spread}
use Rattle.reads.proofs.Laws.Bounded.{found}

module _ (v : Spread) where
  -- the test says that no position wraps, and no more
  pub holds_bounded : spread_holds v ≡ true → Bounded v
  unfolding spread_holds
  holds_bounded e =
      let p = both _ _ e in
      let q = both _ _ p.1 in
      let c = both _ _ p.0 in
      record {
        ends =
            λ r l.
            let some : eqb v.records 0 ≡ false = ne_eqb v.records 0 (λ z. omega arith) in
            let last : v.begin + whole_bytes v ≤ max_position = leb-true _ _ (subst (λ (b : Bool). b || leb (v.begin + whole_bytes v) max_position ≡ true) some q.1) in
            let g : r * v.step ≤ (v.records - 1) * v.step = mul-le-mul_right v.step (omega arith) in
            omega arith;
        size = eqb-true _ _ q.0;
        low = leb-true _ _ c.0;
        high = leb-true _ _ c.1;
      }

  pub bounded-holds : Bounded v → spread_holds v ≡ true
  unfolding spread_holds
  bounded-holds b = by (eqb v.records 0) refl
    where
      by : (none : Bool) → eqb v.records 0 ≡ none → between 1 6 v.code && (eqb v.width (size_of v.code) && (none || leb (v.begin + whole_bytes v) max_position)) ≡ true
      by true e = rw (le-leb 1 v.code b.low, le-leb v.code 6 b.high, eq-eqb v.width (size_of v.code) b.size)
      by false e =
          let n = eqb-false v.records 0 e in
          let last = b.ends (v.records - 1) (omega arith) in
          rw (le-leb 1 v.code b.low, le-leb v.code 6 b.high, eq-eqb v.width (size_of v.code) b.size) (le-leb (v.begin + whole_bytes v) max_position (omega arith))

-- ---- the answers
module _ (m : Step Spread) where
  pub kept-bounded : {v : Spread} {n : ℕ} → got v n ≡ kept m → Bounded v
  unfolding kept
  kept-bounded {v} e =
      bind-came m _ e (Bounded v) (λ u n f g.
      let q = test-came 23 0 g in
      subst (λ (x : Spread). Bounded x) (sym (got_same q.1)) (holds_bounded u q.0))

  module _ (code : ℕ) where
    pub as-came : {v : Spread} {n : ℕ} → got v n ≡ kept_as code m → Bounded v × (v.code ≡ code)
    unfolding kept_as
    as-came {v} e =
        bind-came (kept m) _ e (Bounded v × (v.code ≡ code)) (λ u n f g.
        let q = test-came 17 0 g in
        let same : v ≡ u = got_same q.1 in
        (subst (λ (x : Spread). Bounded x) (sym same) (kept-bounded f), ap (λ (x : Spread). x.code) same ∙ eqb-true _ _ q.0))

-- ---- a variable that was found is kept as it is
found-again : (m : Step Spread) → ((v : Spread) (n : ℕ) → got v n ≡ m → (n ≡ 0) × Bounded v) → kept m ≡ m
unfolding kept bind
found-again (got v n) h = let b = h v n refl in sym (by-true _ (bounded-holds v b.1) (ap (λ (k : ℕ). got v k) b.0))
found-again (stop k p) h = refl

at_zero : (t : Tables) (i : ℕ) {v : Spread} {n : ℕ} → got v n ≡ sought t i → n ≡ 0
unfolding sought
at_zero t i e = let p = test-came 23 0 e in let q = test-came 16 0 p.1 in let g = q.1 in cc

pub found-kept : (t : Tables) (i : ℕ) → kept (sought t i) ≡ sought t i
found-kept t i = found-again (sought t i) (λ _ _ e. (at_zero t i e, found t i e))

pub found-kept-as : (code : ℕ) (t : Tables) (i : ℕ) → kept_as code (sought t i) ≡ sought_as code t i
unfolding kept_as sought_as
found-kept-as code t i = rw (found-kept t i)
