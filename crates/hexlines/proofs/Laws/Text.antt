-- Laws of numbers in decimal.
use Prim.Native.Nat.{ℕ, zero, suc, ◌-◌, ◌^◌, ◌≤◌, ◌<◌}
use mathlib.Core.Path.{◌≡◌, refl, sym, ◌∙◌}
use mathlib.Core.Bool.{true, false, ◌&&◌, and-false}
use mathlib.Core.Logic.{⊎_elim}
use mathlib.Core.List.{List}
use native.Mathlib.Omega.{arith}
use native.Mathlib.Nat.{pow-le-pow_right, eq-or-lt_of_le}
use borrow.Author.Tests.{lt-ltb, le-ltb}
use lib.Dec.{ltb}
use Rattle.io.specs.Digits.{last_digits, IsDigitCount}
use Rattle.cdf.proofs.Laws.Below.{order, first-none, first-is}
use Rattle.hexlines.specs.Text.{places, decimal}

-- a number of digits below the fewest is too small, and the fewest is enough
smaller : (n k j : ℕ) → IsDigitCount 10 1 n k → j < k → (ltb 0 j && ltb n (10 ^ j)) ≡ false
smaller n k zero f l = refl
smaller n k (suc j) f l =
    let p : 10 ^ suc j ≤ 10 ^ (k - 1) = pow-le-pow_right (omega arith) (omega arith) in
    let q : 10 ^ (k - 1) ≤ n = f.2 (omega arith) in
    rw (le-ltb n (10 ^ suc j) (omega arith)) (and-false (ltb 0 (suc j)))

enough : (n k : ℕ) → IsDigitCount 10 1 n k → (ltb 0 k && ltb n (10 ^ k)) ≡ true
enough n k f = rw (lt-ltb 0 k f.0, lt-ltb n (10 ^ k) f.1)

-- 20 digits hold a number of 64 bits
pub few-digits : (n k : ℕ) → IsDigitCount 10 1 n k → n < 18446744073709551616 → k ≤ 20
few-digits n k f h =
    ⊎_elim
    (λ (l : k ≤ 20). l)
    (λ (l : 20 < k).
    let d : 20 ≤ k - 1 = omega arith in
    let p : 10 ^ 20 ≤ 10 ^ (k - 1) = pow-le-pow_right (omega arith) d in
    let q : 10 ^ (k - 1) ≤ n = f.2 (omega arith) in
    let r : ⊥ = omega arith in
    absurd r)
    (order k 20)

-- the fewest digits, where 20 are enough
pub places-are : (n k : ℕ) → IsDigitCount 10 1 n k → k ≤ 20 → places n ≡ k
unfolding places
places-are n k f h =
    ⊎_elim
    (λ (e : k ≡ 20). first-none _ 20 (λ j l. smaller n k j f (omega arith)) ∙ sym e)
    (λ (l : k < 20). first-is _ 20 k l (λ j m. smaller n k j f m) (enough n k f))
    (eq-or-lt_of_le h)

pub decimal-is : (n k : ℕ) (t : List ℕ) → IsDigitCount 10 1 n k → k ≤ 20 → t ≡ last_digits 10 k n → t ≡ decimal n
unfolding decimal
decimal-is n k t f h e = rw (places-are n k f h) e
