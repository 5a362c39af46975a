-- Laws of the number of attributes, the record count and the ends, as the code tests them.
use Prim.Native.Nat.{ℕ, ◌+◌}
use native.Mathlib.Omega.{arith}
use native.Mathlib.Numerals.{add-one}
use native.Mathlib.Nat.{add-zero, add_assoc}
use mathlib.Core.Path.{◌≡◌, sym, ap, ◌∙◌}
use mathlib.Core.Bool.{Bool, true, false}
use lib.Dec.{leb, eqb}
use borrow.Author.Tests.{eq-eqb, ne_eqb}
use Rattle.cdf.specs.Step.{Step, got, stop, test, number_of}
use Rattle.grammar.specs.Tables.{var_at}
use Rattle.grammar.specs.declared.tables.Tables.{Tables}
use Rattle.sizes.specs.Records.{total, sizes_hold, ends_hold}
use Rattle.sizes.specs.Count.{record_count}
use Rattle.order.specs.Inner.Tests.{attributes_upto, attributes_tested, count_tested, sizes_tested}
use Rattle.order.proofs.Laws.Chain.{ended, passed}

module _ (t : Tables) where
  pub upto-none : t.globals ≡ attributes_upto t 0
  unfolding attributes_upto total
  upto-none = sym (add-zero t.globals)

  pub upto-more : (i : ℕ) {x y : ℕ} → x ≡ attributes_upto t i → y ≡ (var_at t i).attrs → x + y ≡ attributes_upto t (i + 1)
  unfolding attributes_upto total
  upto-more i e f = rw (add-one, e, f) (add_assoc t.globals (total (λ k. (var_at t k).attrs) i) (var_at t i).attrs)

  pub upto_all : {i x : ℕ} → i ≡ t.nvars → x ≡ attributes_upto t i → leb x 128 ≡ attributes_tested t
  upto_all e f = ap (λ (n : ℕ). leb n 128) (f ∙ ap (attributes_upto t) e)

-- a record count is refused with a number that is not 0
abbrev Refusing : {A : Type 0} → Step A → Type 0
Refusing x = (k p : ℕ) → x ≡ stop k p → k ≡ 0 → ⊥

refusing-got : {A : Type 0} (a : A) (n : ℕ) → Refusing (got a n)
refusing-got a n k p e z = let q : ◌≡◌ {A = ℕ} 0 1 = cc in omega arith

refusing-stop : {A : Type 0} (k p : ℕ) → (k ≡ 0 → ⊥) → Refusing {A = A} (stop k p)
refusing-stop k p h k' p' e z = h (let q : k ≡ k' = cc in q ∙ z)

refusing-test : {A : Type 0} (b : Bool) (x y : Step A) → Refusing x → Refusing y → Refusing (test b x y)
unfolding test
refusing-test true x y h l = h
refusing-test false x y h l = l

count-refusing : (t : Tables) → Refusing (record_count t)
unfolding record_count
count-refusing t =
    refusing-test _ _ _
    (refusing-test _ _ _
    (refusing-test _ _ _ (refusing-test _ _ _ (refusing-test _ _ _ (refusing-got _ _) (refusing-stop 13 0 (λ z. omega arith))) (refusing-stop 14 0 (λ z. omega arith))) (refusing-got _ _))
    (refusing-got _ _))
    (refusing-got _ _)

module _ (t : Tables) where
  pub sizes-broken : sizes_hold t ≡ false → false ≡ sizes_tested t
  unfolding sizes_tested
  sizes-broken e = ended _ e

  module _ (hold : sizes_hold t ≡ true) where
    pub sizes-refused : {k : ℕ} → stop k 0 ≡ record_count t → false ≡ sizes_tested t
    unfolding sizes_tested count_tested
    sizes-refused {k} e = passed hold (ended _ (sym (ended _ (ap (λ (x : Step ℕ). eqb (number_of x) 0) (sym e) ∙ ne_eqb k 0 (count-refusing t k 0 (sym e))))))

    pub sizes-other : {n : ℕ} → got n 0 ≡ record_count t → (n ≡ t.count → ⊥) → false ≡ sizes_tested t
    unfolding sizes_tested count_tested
    sizes-other {n} e h = passed hold (rw (← e) (ended _ (ne_eqb n t.count h)))

    pub sizes-same : {n : ℕ} {r : Bool} → got n 0 ≡ record_count t → n ≡ t.count → r ≡ ends_hold t t.count → r ≡ sizes_tested t
    unfolding sizes_tested count_tested
    sizes-same {n} e h f = passed hold (rw (← e) (passed (eq-eqb n t.count h) f))
