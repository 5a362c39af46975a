-- Laws of hexadecimal digits.
use Prim.Native.Nat.{ℕ, ◌+◌, ◌-◌, ◌*◌, ◌≤◌, ◌<◌}
use mathlib.Core.Path.{◌≡◌, sym}
use mathlib.Core.Bool.{true, false}
use mathlib.Core.List.{List, [], ◌∷◌, ◌++◌}
use native.Mathlib.Omega.{arith}
use native.Mathlib.Numerals.{add-one}
use borrow.Author.Count.{below_more}
use borrow.Author.Tests.{lt-ltb, le-ltb}
use lib.ListN.{get_or}
use Rattle.cdf.proofs.Laws.Below.{inside, over, outside, all_hold, one-fails}
use Rattle.bigendian.specs.Lists.{tab}
use mathlib.Core.Logic.{◌⊎◌}
use Rattle.hexlines.specs.Digit.{worth, are_digits, pair}

module _ (c : ℕ) where
  pub decimal_digit : 48 ≤ c → c ≤ 57 → c - 48 ≡ worth c
  unfolding worth
  decimal_digit l h = rw (inside 48 57 c l h)

  pub upper-digit : 65 ≤ c → c ≤ 70 → c - 65 + 10 ≡ worth c
  unfolding worth
  upper-digit l h = let e : c - 65 + 10 ≡ c - 55 = omega arith in rw (over 48 57 c (omega arith), inside 65 70 c l h) e

  pub lower-digit : 97 ≤ c → c ≤ 102 → c - 97 + 10 ≡ worth c
  unfolding worth
  lower-digit l h =
      let e : c - 97 + 10 ≡ c - 87 = omega arith in
      rw (over 48 57 c (omega arith), over 65 70 c (omega arith), inside 97 102 c l h) e

  pub no_digit : (c < 48) ⊎ (57 < c) → (c < 65) ⊎ (70 < c) → (c < 97) ⊎ (102 < c) → 16 ≡ worth c
  unfolding worth
  no_digit d u l = rw (outside 48 57 c d, outside 65 70 c u, outside 97 102 c l)

module _ (n : ℕ) (s : List ℕ) where
  pub digits-all : ((i : ℕ) → i < n → worth (get_or s i 0) < 16) → true ≡ are_digits n s
  unfolding are_digits
  digits-all h = sym (all_hold _ n (λ i l. lt-ltb (worth (get_or s i 0)) 16 (h i l)))

  pub digits-not : (i : ℕ) → i < n → 16 ≤ worth (get_or s i 0) → false ≡ are_digits n s
  unfolding are_digits
  digits-not i l e = sym (one-fails _ n i l (le-ltb (worth (get_or s i 0)) 16 e))

-- nothing is spelled yet, and one byte more
pub none-spelled : (s out : List ℕ) → out ≡ [] → out ≡ tab (pair s) 0
unfolding tab
none-spelled s out e = e

pub one-more : (s out new : List ℕ) (i h l : ℕ) → out ≡ tab (pair s) i → new ≡ out ++ ((h * 16 + l) ∷ []) → h ≡ worth (get_or s (2 * i) 0)
    → l ≡ worth (get_or s (2 * i + 1) 0) → new ≡ tab (pair s) (i + 1)
unfolding tab pair
one-more s out new i h l e n p q = rw (add-one, n, e, p, q)

-- two characters more
pub two-more : (s : List ℕ) (i : ℕ) → ((k : ℕ) → k < i * 2 → worth (get_or s k 0) < 16) → worth (get_or s (2 * i) 0) < 16
    → worth (get_or s (2 * i + 1) 0) < 16 → (k : ℕ) → k < (i + 1) * 2 → worth (get_or s k 0) < 16
two-more s i h a b k l =
    below_more _ (2 * i + 1) (below_more _ (2 * i) (λ j m. h j (omega arith)) a) b k (omega arith)
