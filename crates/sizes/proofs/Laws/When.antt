-- Laws of a value that is given where a test holds.
use mathlib.Core.Path.{◌≡◌, refl}
use mathlib.Core.Bool.{Bool, true, false, cond}
use Rattle.std.proofs.Common.{Option, Some, None}

module _ {A : Type 0} (b : Bool) (x : A) where
  pub when-some : {y : A} → cond b (Some x) None ≡ Some y → (b ≡ true) × (y ≡ x)
  when-some {y} e = by b refl e
    where
      by : (c : Bool) → b ≡ c → cond c (Some x) None ≡ Some y → (b ≡ true) × (y ≡ x)
      by true q e = (q, cc)
      by false q e = cc

  pub when-none : cond b (Some x) None ≡ None → b ≡ false
  when-none e = by b refl e
    where
      by : (c : Bool) → b ≡ c → cond c (Some x) None ≡ None → b ≡ false
      by true q e = cc
      by false q e = q

  -- and the other way
  pub some-when : {y : A} → b ≡ true → y ≡ x → Some y ≡ cond b (Some x) None
  some-when e f = rw (e, f)

  pub none-when : b ≡ false → ◌≡◌ {A = Option A} None (cond b (Some x) None)
  none-when e = rw e

pub when-same : {A : Type 0} {b c : Bool} {x y : A} → b ≡ c → x ≡ y → cond b (Some x) None ≡ cond c (Some y) None
when-same e f = rw (e, f)
