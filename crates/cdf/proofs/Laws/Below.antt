-- Laws of tests and searches over the numbers below n.
use Prim.Native.Nat.{ℕ, zero, suc, ◌≤◌, ◌<◌}
use native.Mathlib.Omega.{arith}
use native.Mathlib.Nat.{not-suc-le-zero, le_of_suc-le-suc, eq-or-lt_of_le}
use mathlib.Core.Logic.{◌⊎◌, inl, inr, ⊎_elim}
use mathlib.Core.Path.{◌≡◌, refl, sym, ap, subst, ◌∙◌}
use mathlib.Core.Bool.{Bool, true, false, ◌&&◌, ◌||◌, and-false, and-true, and_assoc, or-true}
use mathlib.Core.List.{List, [], ◌∷◌}
use lib.ListN.{length, get_or}
use Rattle.std.specs.List.{list_all}
use borrow.Author.Tests.{le-leb, lt-leb, leb-true, leb-false}
use lib.Dec.{leb}
use Rattle.cdf.specs.Below.{between, all_below, any_below, first_where}

-- a number is at most another, or above it
pub order : (a b : ℕ) → (a ≤ b) ⊎ (b < a)
order a b = split (leb a b) refl
  where
    split : (t : Bool) → leb a b ≡ t → (a ≤ b) ⊎ (b < a)
    split true e = inl (leb-true a b e)
    split false e = inr (leb-false a b e)

-- both hold where their conjunction does
pub both : (a b : Bool) → (a && b) ≡ true → (a ≡ true) × (b ≡ true)
both true b e = (refl, e)
both false b e = let z : ◌≡◌ {A = Bool} false true = e in (e, cc)

-- a number in a range, below it and above it
module _ (low high n : ℕ) where
  pub inside : low ≤ n → n ≤ high → between low high n ≡ true
  inside h l = rw (le-leb low n h, le-leb n high l)

  pub under : n < low → between low high n ≡ false
  under h = rw (lt-leb low n h)

  pub over : high < n → between low high n ≡ false
  over h = rw (lt-leb n high h) (and-false (leb low n))

  pub outside : (n < low) ⊎ (high < n) → between low high n ≡ false
  outside = ⊎_elim under over

-- tests that agree below n
pub same-below : (n : ℕ) (p q : ℕ → Bool) → ((i : ℕ) → i < n → p i ≡ q i) → all_below n p ≡ all_below n q
unfolding all_below
same-below zero p q h = refl
same-below (suc n) p q h = rw (same-below n p q (λ i l. h i (omega arith)), h n (omega arith))

-- the first number apart
pub first-apart : (n : ℕ) (p : ℕ → Bool) → all_below (suc n) p ≡ (p 0 && all_below n (λ i. p (suc i)))
unfolding all_below
first-apart zero p = sym (and-true (p 0))
first-apart (suc n) p = ap (λ (b : Bool). b && p (suc n)) (first-apart n p) ∙ and_assoc (p 0) (all_below n (λ i. p (suc i))) (p (suc n))

-- a test of each element of a list is one of each number below its length
pub each-below : {A : Type 0} (p : A → Bool) (d : A) (xs : List A) → list_all p xs ≡ all_below (length xs) (λ i. p (get_or xs i d))
unfolding all_below
each-below p d [] = refl
each-below p d (x ∷ xs) = ap (λ (b : Bool). p x && b) (each-below p d xs) ∙ sym (first-apart (length xs) (λ i. p (get_or (x ∷ xs) i d)))

module _ (p : ℕ → Bool) where
  pub all_hold : (n : ℕ) → ((k : ℕ) → k < n → p k ≡ true) → all_below n p ≡ true
  unfolding all_below
  all_hold zero h = refl
  all_hold (suc n) h = rw (all_hold n (λ k l. h k (omega arith)), h n (omega arith))

  pub one-fails : (n k : ℕ) → k < n → p k ≡ false → all_below n p ≡ false
  unfolding all_below
  one-fails zero k l e = absurd (not-suc-le-zero l)
  one-fails (suc n) k l e =
      ⊎_elim
      (λ (q : k ≡ n). ap (λ (b : Bool). all_below n p && b) (ap p (sym q) ∙ e) ∙ and-false (all_below n p))
      (λ (q : k < n). rw (one-fails n k q e))
      (eq-or-lt_of_le (le_of_suc-le-suc l))

  pub holds_at : (n k : ℕ) → all_below n p ≡ true → k < n → p k ≡ true
  unfolding all_below
  holds_at zero k e l = absurd (not-suc-le-zero l)
  holds_at (suc n) k e l =
      let b = both (all_below n p) (p n) e in
      ⊎_elim (λ (q : k ≡ n). ap p q ∙ b.1) (λ (q : k < n). holds_at n k b.0 q) (eq-or-lt_of_le (le_of_suc-le-suc l))

  pub none-holds : (n : ℕ) → ((k : ℕ) → k < n → p k ≡ false) → any_below n p ≡ false
  unfolding any_below
  none-holds zero h = refl
  none-holds (suc n) h = rw (none-holds n (λ k l. h k (omega arith)), h n (omega arith))

  pub some_holds : (n k : ℕ) → k < n → p k ≡ true → any_below n p ≡ true
  unfolding any_below
  some_holds zero k l e = absurd (not-suc-le-zero l)
  some_holds (suc n) k l e =
      ⊎_elim
      (λ (q : k ≡ n). ap (λ (b : Bool). any_below n p || b) (ap p (sym q) ∙ e) ∙ or-true (any_below n p))
      (λ (q : k < n). rw (some_holds n k q e))
      (eq-or-lt_of_le (le_of_suc-le-suc l))

  pub none-at : (n k : ℕ) → any_below n p ≡ false → k < n → p k ≡ false
  none-at n k e l = at (p k) refl
    where
      at : (b : Bool) → p k ≡ b → p k ≡ false
      at true q = let z : ◌≡◌ {A = Bool} true false = sym (some_holds n k l q) ∙ e in cc
      at false q = q

  -- p holds of nothing below n: the search gives n
  pub first-none : (n : ℕ) → ((k : ℕ) → k < n → p k ≡ false) → first_where n p ≡ n
  unfolding first_where
  first-none zero h = refl
  first-none (suc n) h = rw (none-holds n (λ k l. h k (omega arith)), h n (omega arith))

  -- the first of which p holds
  pub first-is : (n i : ℕ) → i < n → ((k : ℕ) → k < i → p k ≡ false) → p i ≡ true → first_where n p ≡ i
  unfolding first_where
  first-is zero i l h e = absurd (not-suc-le-zero l)
  first-is (suc n) i l h e =
      ⊎_elim
      (λ (q : i ≡ n). rw (none-holds n (λ k m. h k (omega arith)), sym (ap p q) ∙ e, q))
      (λ (q : i < n). rw (some_holds n i q e, first-is n i q h e))
      (eq-or-lt_of_le (le_of_suc-le-suc l))

  -- what the search finds, by whether there is something to find
  pub first_some : (n : ℕ) → any_below n p ≡ true → (first_where n p < n) × (p (first_where n p) ≡ true)
  unfolding any_below first_where
  first_some zero e = let z : ◌≡◌ {A = Bool} false true = e in absurd (never z)
    where
      never : ◌≡◌ {A = Bool} false true → ⊥
      never z = let q : ◌≡◌ {A = ℕ} 0 1 = cc in omega arith
  first_some (suc n) e = by (any_below n p) refl (first_some n)
    where
      by : (b : Bool) → any_below n p ≡ b → (any_below n p ≡ true → (first_where n p < n) × (p (first_where n p) ≡ true)) → (first_where (suc n) p < suc n) × (p (first_where (suc n) p) ≡ true)
      by true q before = let f = before q in rw q (omega arith, f.1)
      by false q before = let g : p n ≡ true = subst (λ (b : Bool). (b || p n) ≡ true) q e in rw (q, g) (omega arith, g)

  pub any-first : (n : ℕ) → first_where n p < n → any_below n p ≡ true
  any-first n l = by (any_below n p) refl
    where
      by : (b : Bool) → any_below n p ≡ b → any_below n p ≡ true
      by true q = q
      by false q = let f = first-none n (λ k m. none-at n k q m) in absurd (omega arith)

  pub none_first : (n : ℕ) → n ≤ first_where n p → any_below n p ≡ false
  none_first n l = by (any_below n p) refl
    where
      by : (b : Bool) → any_below n p ≡ b → any_below n p ≡ false
      by true q = let f = first_some n q in absurd (omega (arith, f.0))
      by false q = q

  pub first-before : (n k : ℕ) → k < first_where n p → p k ≡ false
  unfolding first_where
  first-before zero k l = absurd (not-suc-le-zero l)
  first-before (suc n) k l = by (any_below n p) refl (p n) refl (first-before n k)
    where
      by : (b : Bool) → any_below n p ≡ b → (c : Bool) → p n ≡ c → (k < first_where n p → p k ≡ false) → p k ≡ false
      by true q c r before = before (rw q at l)
      by false q true r before = none-at n k q (rw (q, r) at l)
      by false q false r before =
          let m : k < suc n = rw (q, r) at l in
          ⊎_elim (λ (e : k ≡ n). ap p e ∙ r) (λ (h : k < n). none-at n k q h) (eq-or-lt_of_le (le_of_suc-le-suc m))
