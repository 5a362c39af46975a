-- Laws of rows: what a walk over the first n rows of a list finds is what is said of their numbers below n.
use Prim.Native.Nat.{ℕ, zero, suc, ◌+◌, ◌≤◌, ◌<◌}
use native.Mathlib.Nat.{zero-add}
use native.Mathlib.Omega.{arith}
use native.Mathlib.Numerals.{add-one}
use mathlib.Core.Path.{◌≡◌, refl, sym, ap, ◌∙◌}
use mathlib.Core.Bool.{Bool, true, false, ◌&&◌, ◌||◌, not, and-false, or-true}
use mathlib.Core.List.{List}
use lib.ListN.{get_or, length, take}
use lib.Dec.{ltb, leb}
use borrow.Author.Tests.{lt-ltb, le-leb, lt-leb, ltb-true, ltb-false}
use Rattle.std.specs.List.{list_all, list_any, count_by, range_with_len}
use Rattle.std.proofs.lemmas.List.Sums.{count_by_more_no, count_by_more_yes}
use Rattle.std.proofs.lemmas.List.{get_or-take, take_all, length-take}
use Rattle.std.proofs.lemmas.List.Folds.{list_all_more, list_any_more}
use Rattle.std.proofs.lemmas.List.FromFn.{length-range_with_len, get_or-range_with_len}
use Rattle.cdf.specs.Below.{all_below, any_below}
use Rattle.cdf.proofs.Laws.Below.{some_holds}

-- a row among the first n of a list
module _ {X : Type 0} (n : ℕ) (xs : List X) (i : ℕ) (d : X) where
  pub row-below : i < length (take n xs) → i < n
  row-below l = omega (arith, length-take n xs)

  pub row-at : i < length (take n xs) → get_or (take n xs) i d ≡ get_or xs i d
  row-at l = get_or-take n xs i d (row-below l)

  -- the same of rows that are those
  pub row-of : {ys : List X} → ys ≡ take n xs → length ys ≡ n → i < length ys → get_or ys i d ≡ get_or xs i d
  row-of e m l = ap (λ (zs : List X). get_or zs i d) e ∙ get_or-take n xs i d (omega arith)

-- there are so many rows
pub rows-enough : {X : Type 0} (n : ℕ) (xs : List X) {ys : List X} → ys ≡ take n xs → length ys ≡ n → n ≤ length xs
rows-enough n xs e m = omega (arith, length-take n xs, ap length e)

-- where all are done
pub rows-done : {X : Type 0} (n : ℕ) (xs : List X) (i : ℕ) → n ≤ length xs → length (take n xs) ≤ i → n ≤ i
rows-done n xs i h l = omega (arith, length-take n xs)

-- tests of numbers that agree below n
module _ (p q : ℕ → Bool) where
  pub all-same : (n : ℕ) → ((k : ℕ) → k < n → p k ≡ q k) → all_below n p ≡ all_below n q
  unfolding all_below
  all-same zero h = refl
  all-same (suc n) h = rw (all-same n (λ k l. h k (omega arith)), h n (omega arith))

  pub any-same : (n : ℕ) → ((k : ℕ) → k < n → p k ≡ q k) → any_below n p ≡ any_below n q
  unfolding any_below
  any-same zero h = refl
  any-same (suc n) h = rw (any-same n (λ k l. h k (omega arith)), h n (omega arith))

module _ {X : Type 0} (p : X → Bool) (xs : List X) (d : X) where
  pub all-rows : (n : ℕ) → n ≤ length xs → list_all p (take n xs) ≡ all_below n (λ i. p (get_or xs i d))
  unfolding all_below
  all-rows zero h = refl
  all-rows (suc n) h = rw (← add-one) (list_all_more p xs n d (omega arith) ∙ ap (λ (b : Bool). b && p (get_or xs n d)) (all-rows n (omega arith)))

  pub any-rows : (n : ℕ) → n ≤ length xs → list_any p (take n xs) ≡ any_below n (λ i. p (get_or xs i d))
  unfolding any_below
  any-rows zero h = refl
  any-rows (suc n) h = rw (← add-one) (list_any_more p xs n d (omega arith) ∙ ap (λ (b : Bool). b || p (get_or xs n d)) (any-rows n (omega arith)))

  pub all-list : list_all p xs ≡ all_below (length xs) (λ i. p (get_or xs i d))
  all-list = ap (list_all p) (sym (take_all (length xs) xs (omega arith))) ∙ all-rows (length xs) (omega arith)

  pub any-list : list_any p xs ≡ any_below (length xs) (λ i. p (get_or xs i d))
  any-list = ap (list_any p) (sym (take_all (length xs) xs (omega arith))) ∙ any-rows (length xs) (omega arith)

  -- the rows one by one: none of the first n passes, nor does the next; one does
  pub any-more : (n : ℕ) → n < length xs → list_any p (take n xs) ≡ false → p (get_or xs n d) ≡ false → list_any p (take (n + 1) xs) ≡ false
  any-more n h e f = list_any_more p xs n d h ∙ rw (e, f)

  pub any-found : (n : ℕ) → n < length xs → p (get_or xs n d) ≡ true → list_any p xs ≡ true
  any-found n h e = any-list ∙ some_holds (λ i. p (get_or xs i d)) (length xs) n h e

  -- so many of the first n rows pass
  abbrev pub Counted : ℕ → ℕ
  Counted n = count_by p (take n xs)

  abbrev pub Passes : ℕ → Bool
  Passes i = p (get_or xs i d)

  next : (n : ℕ) → Counted (suc n) ≡ Counted (n + 1)
  next n = ap Counted (sym (add-one n))

  counted-one : (n : ℕ) → n < length xs → Passes n ≡ true → Counted (suc n) ≡ Counted n + 1
  counted-one n h e = next n ∙ count_by_more_yes p xs n d h e

  counted-same : (n : ℕ) → n < length xs → Passes n ≡ false → Counted (suc n) ≡ Counted n
  counted-same n h e = next n ∙ count_by_more_no p xs n d h e

  pub any-counted : (n : ℕ) → n ≤ length xs → ltb 0 (Counted n) ≡ any_below n Passes
  unfolding any_below
  any-counted zero h = refl
  any-counted (suc n) h = by (Passes n) refl (any_below n Passes) (any-counted n (omega arith))
    where
      by : (b : Bool) → Passes n ≡ b → (a : Bool) → ltb 0 (Counted n) ≡ a → ltb 0 (Counted (suc n)) ≡ (a || Passes n)
      by true q a r = let e = counted-one n h q in lt-ltb 0 (Counted (suc n)) (omega arith) ∙ sym (or-true a) ∙ ap (λ (x : Bool). a || x) (sym q)
      by false q true r = ap (ltb 0) (counted-same n h q) ∙ r
      by false q false r = ap (ltb 0) (counted-same n h q) ∙ r ∙ sym q

  -- at most one passes: none that passes stands after another
  pub one-counted : (n : ℕ) → n ≤ length xs → leb (Counted n) 1 ≡ all_below n (λ i. not (Passes i && any_below i Passes))
  unfolding all_below
  one-counted zero h = refl
  one-counted (suc n) h = by (Passes n) refl (any_below n Passes) (any-counted n (omega arith)) _ (one-counted n (omega arith))
    where
      by : (b : Bool) → Passes n ≡ b → (a : Bool) → ltb 0 (Counted n) ≡ a → (w : Bool) → leb (Counted n) 1 ≡ w → leb (Counted (suc n)) 1 ≡ (w && not (Passes n && a))
      by true q true r w e =
          let l = ltb-true 0 (Counted n) r in
          let m = counted-one n h q in
          rw q (lt-leb (Counted (suc n)) 1 (omega arith) ∙ sym (and-false w))
      by true q false r w e =
          let l = ltb-false 0 (Counted n) r in
          let m = counted-one n h q in
          rw (q, ← e, le-leb (Counted n) 1 (omega arith)) (le-leb (Counted (suc n)) 1 (omega arith))
      by false q a r true e = rw q (ap (λ (m : ℕ). leb m 1) (counted-same n h q) ∙ e)
      by false q a r false e = ap (λ (m : ℕ). leb m 1) (counted-same n h q) ∙ e

  -- the same of rows that are those
  module _ (n : ℕ) {ys : List X} (rows : ys ≡ take n xs) (number : length ys ≡ n) where
    enough : n ≤ length xs
    enough = rows-enough n xs rows number

    pub all-of : list_all p ys ≡ all_below n (λ i. p (get_or xs i d))
    all-of = ap (list_all p) rows ∙ all-rows n enough

    pub any-of : list_any p ys ≡ any_below n (λ i. p (get_or xs i d))
    any-of = ap (list_any p) rows ∙ any-rows n enough

    pub one-of : leb (count_by p ys) 1 ≡ all_below n (λ i. not (p (get_or xs i d) && any_below i (λ j. p (get_or xs j d))))
    one-of = ap (λ (zs : List X). leb (count_by p zs) 1) rows ∙ one-counted n enough

-- none of all rows passes, where all were tried
pub any-none : {X : Type 0} (p : X → Bool) (xs : List X) (n : ℕ) → length xs ≤ n → list_any p (take n xs) ≡ false → list_any p xs ≡ false
any-none p xs n h e = ap (list_any p) (sym (take_all n xs h)) ∙ e

-- the numbers from 0 on
pub all-range : (p : ℕ → Bool) (n : ℕ) → list_all p (range_with_len 0 n) ≡ all_below n p
all-range p n =
    all-list p (range_with_len 0 n) 0
    ∙ ap (λ (m : ℕ). all_below m (λ i. p (get_or (range_with_len 0 n) i 0))) (length-range_with_len 0 n)
    ∙ all-same _ p n (λ k l. ap p (get_or-range_with_len 0 n k 0 l ∙ simp zero-add))
