-- Laws of big-endian numbers, over the number of bytes where it is free.
use mathlib.Core.Path.{◌≡◌, refl, sym, ap, ◌∙◌}
use mathlib.Core.Bool.{Bool, true, false, cond}
use lib.Dec.{ltb}
use mathlib.Core.List.{List}
use Prim.Native.Nat.{ℕ, zero, suc, ◌+◌, ◌-◌, ◌*◌, ◌^◌, ◌≤◌, ◌<◌}
use native.Mathlib.Nat.{add-zero, add_assoc, pow-succ'}
use native.Mathlib.Omega.{arith}
use lib.ListN.{get_or, take, drop}
use lib.Seq.{get_or-take, get_or-drop}
use borrow.Author.Tests.{lt-ltb, le-ltb}
use Rattle.bigendian.specs.Number.{be, half, extended}

-- a byte and numbers read from a part of s
byte-part : (s : List ℕ) (c n p k : ℕ) → p + k < n → get_or (take n (drop c s)) (p + k) 0 ≡ get_or s (c + p + k) 0
byte-part s c n p k h = get_or-take n (drop c s) (p + k) 0 h ∙ get_or-drop c s (p + k) 0 ∙ ap (λ (i : ℕ). get_or s i 0) (sym (add_assoc c p k))

pub be-part : (k : ℕ) (s : List ℕ) (c n p : ℕ) → p + k ≤ n → be k (take n (drop c s)) p ≡ be k s (c + p)
unfolding be
be-part zero s c n p h = refl
be-part (suc k) s c n p h =
    let e = be-part k s c n p (omega arith) in
    let f = byte-part s c n p k (omega arith) in
    cc

module _ (s : List ℕ) (bytes : (i : ℕ) → get_or s i 0 < 256) where
  pub be-fits : (k p : ℕ) → be k s p < 256 ^ k
  unfolding be
  be-fits zero p = omega arith
  be-fits (suc k) p = rw (pow-succ' 256 k) (omega (arith, be-fits k p, bytes (p + k)))

-- two's complement: a number whose sign bit is not set, one whose sign bit is set, and all 64 bits
pub extended-low : (k v : ℕ) → v < half k → v ≡ extended k v
unfolding extended
extended-low k v h = rw (lt-ltb v (half k) h)

pub extended-high : (k v : ℕ) → half k ≤ v → v + (2 ^ 64 - 2 ^ (8 * k)) ≡ extended k v
unfolding extended
extended-high k v h = rw (le-ltb v (half k) h)

same : (b : Bool) (v : ℕ) → v ≡ cond b v v
same true v = refl
same false v = refl

pub extended-8 : (v : ℕ) → v ≡ extended 8 v
unfolding extended
extended-8 v = rw add-zero (same (ltb v (half 8)) v)
