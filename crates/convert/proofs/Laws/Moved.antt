-- Rows of which the first are moved.
use Prim.Native.Nat.{ℕ, zero, suc, ◌+◌, ◌≤◌, ◌<◌}
use native.Mathlib.Omega.{arith}
use native.Mathlib.Numerals.{add-one}
use mathlib.Core.Path.{◌≡◌, refl, sym, ap, ◌∙◌}
use mathlib.Core.Bool.{Bool, true, false, ◌&&◌, false≢true}
use Rattle.std.specs.List.{list_all}
use Rattle.std.proofs.lemmas.List.Folds.{list_all_more}
use Rattle.cdf.specs.Below.{all_below}
use mathlib.Core.List.{List, [], ◌∷◌, ◌++◌, map, append-nil}
use lib.Seq.{take_all}
use Rattle.std.proofs.lemmas.List.{drop_all}
use lib.ListN.{length, take, drop, set, get_or}

module _ {A : Type 0} (g : A → A) (d : A) where
  -- the first n of the rows are moved
  abbrev pub up_to : ℕ → List A → List A
  up_to n xs = map g (take n xs) ++ drop n xs

  set-row : (xs : List A) (i : ℕ) → i < length xs → set (up_to i xs) i (g (get_or xs i d)) ≡ up_to (suc i) xs
  set-row [] i h = absurd (omega arith)
  set-row (x ∷ xs) zero h = refl
  set-row (x ∷ xs) (suc i) h = ap (λ (l : List A). g x ∷ l) (set-row xs i (omega arith))

  next_row : (xs : List A) (i : ℕ) → i < length xs → get_or (up_to i xs) i d ≡ get_or xs i d
  next_row [] i h = absurd (omega arith)
  next_row (x ∷ xs) zero h = refl
  next_row (x ∷ xs) (suc i) h = next_row xs i (omega arith)

  -- a row that was moved
  pub moved_row : (n : ℕ) (xs : List A) (i : ℕ) → i < n → i < length xs → get_or (up_to n xs) i d ≡ g (get_or xs i d)
  moved_row n [] i h l = absurd (omega arith)
  moved_row zero (x ∷ xs) i h l = absurd (omega arith)
  moved_row (suc n) (x ∷ xs) zero h l = refl
  moved_row (suc n) (x ∷ xs) (suc i) h l = moved_row n xs i (omega arith) (omega arith)

  pub length-up_to : (n : ℕ) (xs : List A) → length (up_to n xs) ≡ length xs
  length-up_to n [] = none n
    where
      none : (n : ℕ) → length (up_to n []) ≡ 0
      none zero = refl
      none (suc n) = refl
  length-up_to zero (x ∷ xs) = refl
  length-up_to (suc n) (x ∷ xs) = ap suc (length-up_to n xs)

  -- a row that is not moved yet
  pub still-row : (xs rows : List A) (i : ℕ) → i < length xs → rows ≡ up_to i xs → get_or rows i d ≡ get_or xs i d
  still-row xs rows i h e = ap (λ (l : List A). get_or l i d) e ∙ next_row xs i h

  -- one row more
  pub one_more : (xs rows : List A) (i : ℕ) (y : A) → i < length xs → rows ≡ up_to i xs → y ≡ g (get_or rows i d) → set rows i y ≡ up_to (i + 1) xs
  one_more xs rows i y h e f =
      ap (λ (l : List A). set l i y) e
      ∙ ap (λ (z : A). set (up_to i xs) i z) (f ∙ ap (λ (l : List A). g (get_or l i d)) e ∙ ap g (next_row xs i h))
      ∙ set-row xs i h ∙ ap (λ (n : ℕ). up_to n xs) (sym (add-one i))

-- all of the first n are moved
pub all-up : {A : Type 0} (g : A → A) (d : A) (n i : ℕ) (xs : List A) → length (take n xs) ≤ i → up_to g d i (take n xs) ≡ map g (take n xs)
all-up {A} g d n i xs h =
    ap (λ (ys : List A). map g ys ++ drop i (take n xs)) (take_all i (take n xs) h) ∙ ap (λ (ys : List A). map g (take n xs) ++ ys) (drop_all i (take n xs) h) ∙ append-nil (map g (take n xs))

-- a test of the first n rows, one by one
pub all-rows : {A : Type 0} (p : A → Bool) (xs : List A) (d : A) (n : ℕ) → n ≤ length xs → list_all p (take n xs) ≡ all_below n (λ i. p (get_or xs i d))
unfolding all_below
all-rows p xs d zero h = refl
all-rows p xs d (suc n) h = rw (← add-one) (list_all_more p xs n d (omega arith) ∙ ap (λ (b : Bool). b && p (get_or xs n d)) (all-rows p xs d n (omega arith)))

-- a test that does not hold, where it follows from another
pub broken : {a : Bool} (x : Bool) → (x ≡ true → a ≡ true) → a ≡ false → false ≡ x
broken true h e = absurd (false≢true (sym e ∙ h refl))
broken false h e = refl
