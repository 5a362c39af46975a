-- Numbers in a range, and rows that are tested or searched by their numbers, from 0.
use Rattle.std.specs.Prelude.{ℕ, zero, suc, Bool, true, false, cond, ◌&&◌, ◌||◌, leb}

-- a number from `low` to `high`, both included
abbrev pub between : ℕ → ℕ → ℕ → Bool
between low high n = leb low n && leb n high

-- p holds of every number below n
unfoldable pub all_below : ℕ → (ℕ → Bool) → Bool
all_below zero p = true
all_below (suc n) p = all_below n p && p n

-- p holds of some number below n
unfoldable pub any_below : ℕ → (ℕ → Bool) → Bool
any_below zero p = false
any_below (suc n) p = any_below n p || p n

-- the first number below n of which p holds, or n where there is none
unfoldable pub first_where : ℕ → (ℕ → Bool) → ℕ
first_where zero p = 0
first_where (suc n) p = cond (any_below n p) (first_where n p) (cond (p n) n (suc n))
