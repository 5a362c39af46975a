-- Laws of the values that patterns stand for: over the format of a float, and over the width of a signed number.
use mathlib.Core.Path.{◌≡◌, refl, sym, ap, ◌∙◌, subst}
use mathlib.Core.Bool.{Bool, true, false, not}
use mathlib.Core.List.{List}
use Prim.Native.Nat.{ℕ, ◌+◌, ◌*◌, ◌/◌, ◌%◌, ◌^◌, ◌≤◌, ◌<◌}
use native.Mathlib.Nat.{add-zero, zero-add, add-mul, mul_assoc, mod-lt, div-add-mod', mul-add-mod_self_right, mod-eq_of_lt}
use native.Mathlib.Omega.{arith}
use lib.ListN.{get_or}
use lib.IntN.{ℤ}
use lib.Signed.{mag}
use lib.Dec.{T, lit<}
use lib.Ieee.{Float, nan, inf, fin, Format, binary32, binary64, is_nan, hid, ones, top, nan_bits, of_bits, of_fields, odd, div}
use lib.Ieee.Bits.{nan_bits_is, nan_bits_above}
use borrow.Author.Tests.{lt-ltb, le-ltb}
use mir.Syntax.{Width}
use mir.Val.{to_z, of_z, hbits}
use mir.ValLaws.{to_z-of_z}
use Rattle.bigendian.specs.Number.{be}

-- ---- floats: a pattern above an infinity's, its sign dropped, is a NaN's, and no other is

only_nan : (x : Float) → is_nan x ≡ true → x ≡ nan
unfolding is_nan
only_nan nan e = refl
only_nan (inf s) e = let z : ◌≡◌ {A = Bool} false true = e in cc
only_nan (fin s m k) e = let z : ◌≡◌ {A = Bool} false true = e in cc

zero-over-zero : (f : Format) → div f (of_bits f 0) (of_bits f 0) ≡ nan
unfolding div of_bits of_fields odd
zero-over-zero binary32 = refl
zero-over-zero binary64 = refl

positive : (f : Format) → 0 < top f
positive binary32 = lit< tt
positive binary64 = lit< tt

doubled : (n b : ℕ) → 0 < n → b * 2 % (n * 2) ≡ b % n * 2
doubled n b h =
    let e : b * 2 ≡ b / n * (n * 2) + b % n * 2 = ap (λ (k : ℕ). k * 2) (sym (div-add-mod' b n)) ∙ add-mul _ _ 2 ∙ ap (λ (k : ℕ). k + b % n * 2) (mul_assoc (b / n) n 2) in
    let l : b % n < n = mod-lt b h in
    ap (λ (k : ℕ). k % (n * 2)) e ∙ mul-add-mod_self_right (b / n) (n * 2) (b % n * 2) ∙ mod-eq_of_lt (omega arith)

-- the code's test is made of the pattern shifted left by one, which has lost its sign
module _ (f : Format) (b : ℕ) where
  above : ones f * hid f * 2 < b * 2 % (top f * 2) → ones f * hid f < b % top f
  above h = let e = doubled (top f) b (positive f) in omega arith

  not-above : b * 2 % (top f * 2) ≤ ones f * hid f * 2 → b % top f ≤ ones f * hid f
  not-above h = let e = doubled (top f) b (positive f) in omega arith

  pub nan_pattern : ones f * hid f * 2 < b * 2 % (top f * 2) → div f (of_bits f 0) (of_bits f 0) ≡ of_bits f b
  nan_pattern h = zero-over-zero f ∙ sym (only_nan (of_bits f b) (sym (nan_bits_is f b) ∙ nan_bits_above f b ∙ lt-ltb _ _ (above h)))

  pub no-nan-pattern : b * 2 % (top f * 2) ≤ ones f * hid f * 2 → T (not (nan_bits f b))
  no-nan-pattern h = subst (λ (t : Bool). T (not t)) (sym (nan_bits_above f b ∙ le-ltb _ _ (not-above h))) tt

-- ---- signed numbers: what a store leaves, of a result r that is the number of a pattern
pub stored : (w : Width) {r : ℤ} {b b' : ℕ} → mag r < 2 ^ hbits w → r ≡ to_z w b → b ≡ b' → to_z w (of_z w r) ≡ to_z w b'
stored w {r} h e f = to_z-of_z w r (record { sfits = h }) ∙ e ∙ ap (to_z w) f

-- ---- one byte
pub byte_at : (s : List ℕ) (at : ℕ) → get_or s at 0 ≡ be 1 s at
unfolding be
byte_at s at = rw (add-zero, zero-add) refl
