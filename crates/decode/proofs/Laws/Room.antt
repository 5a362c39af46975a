-- Laws of room: a product compared without being formed, a bound with a part moved, the bound of the last record for every record.
use mathlib.Core.Path.{◌≡◌, refl, sym}
use mathlib.Core.Bool.{Bool, true, false}
use Prim.Native.Nat.{ℕ, ◌+◌, ◌-◌, ◌*◌, ◌/◌, ◌≤◌, ◌<◌}
use native.Mathlib.Nat.{le-div_iff_mul-le, div-lt_iff_lt-mul, mul-le-mul_right, mul-zero}
use native.Mathlib.Omega.{arith}
use lib.Dec.{leb}
use borrow.Author.Tests.{le-leb, lt-leb, leb-true, leb-false}

pub product-zero : (a b n : ℕ) → b ≡ 0 → true ≡ leb (a * b) n
product-zero a b n e = sym (rw (e, mul-zero a) (le-leb 0 n (omega arith)))

same : (x y : Bool) → (x ≡ true → y ≡ true) → (x ≡ false → y ≡ false) → x ≡ y
same true y f g = sym (f refl)
same false y f g = sym (g refl)

pub product-div : (a b n : ℕ) → 0 < b → leb a (n / b) ≡ leb (a * b) n
product-div a b n h =
    same _ _
    (λ t. le-leb _ _ ((le-div_iff_mul-le {k = b} {x = a} {y = n} h).0 (leb-true _ _ t)))
    (λ t. lt-leb _ _ ((div-lt_iff_lt-mul {k = b} {x = n} {y = a} h).0 (leb-false _ _ t)))

-- a bound, and the same bound with a part moved to the other side
pub moved : (a b l : ℕ) → b ≤ l → leb a (l - b) ≡ leb (a + b) l
moved a b l h =
    same (leb a (l - b)) (leb (a + b) l)
    (λ t. let q : a ≤ l - b = leb-true _ _ t in le-leb (a + b) l (omega arith))
    (λ t. let q : l - b < a = leb-false _ _ t in lt-leb (a + b) l (omega arith))

-- where the last of n records ends within l, each does
pub every-record : (n stride m l : ℕ) → (n - 1) * stride + m ≤ l → (k : ℕ) → k < n → k * stride + m ≤ l
every-record n stride m l h k b = let a : k * stride ≤ (n - 1) * stride = mul-le-mul_right stride (omega arith) in omega arith
