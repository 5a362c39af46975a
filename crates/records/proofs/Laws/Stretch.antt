-- Where the last record of a variable ends.
use Prim.Native.Nat.{ℕ, zero, suc, ◌+◌, ◌-◌, ◌*◌, ◌^◌, ◌≤◌, ◌<◌}
use native.Mathlib.Omega.{arith}
use mathlib.Core.Path.{◌≡◌, refl}
use Rattle.reads.specs.Inner.Bounded.{Bounded}
use Rattle.found.specs.declared.variable.Spread.{Spread}

-- where the last record of a variable ends
pub last_in : (v : Spread) → Bounded v → (v.records ≡ 0 → ⊥) → v.begin + (v.records - 1) * v.step + v.chunk * v.width ≤ 2 ^ 62
last_in v b some = b.ends (v.records - 1) (before v.records some)
  where
    before : (n : ℕ) → (n ≡ 0 → ⊥) → n - 1 < n
    before zero z = absurd (z refl)
    before (suc n) z = omega arith
