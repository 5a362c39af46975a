-- Arrays that the code has.
use Prim.Native.Nat.{ℕ, zero, suc, ◌<◌}
use native.Mathlib.Omega.{arith}
use mathlib.Core.List.{List, [], ◌∷◌}
use lib.ListN.{length, get_or}
use mir.Val.{Val}
use base.Fml.{Fml}
use denote.Array.{each}
use denote.Shadow.{shadow}

-- what holds of an element of an array that the code has
pub element : {c : Type 0} (f : c → List Val → Fml) (z : c) (xs : List c) (us : List Val) → shadow (each c f xs us) → (i : ℕ) → i < length xs
    → (u : Val) × shadow (f (get_or xs i z) (u ∷ []))
element f z [] us s i l = absurd (omega arith)
element f z (x ∷ xs) [] s i l = absurd s
element f z (x ∷ xs) (u ∷ us) s zero l = (u, s.0)
element f z (x ∷ xs) (u ∷ us) s (suc i) l = element f z xs us s.1 i (omega arith)
