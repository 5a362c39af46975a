-- Lists that are given by a function of the index.
use Rattle.std.specs.Prelude.{List, [], ◌∷◌, ◌++◌, ℕ, zero, suc}

-- g 0, g 1, .. g (n - 1)
unfoldable pub tab : {A : Type 0} → (ℕ → A) → ℕ → List A
tab g zero = []
tab g (suc n) = tab g n ++ (g n ∷ [])

-- n rows of m: g 0 0, .. g 0 (m - 1), g 1 0, .. g (n - 1) (m - 1)
unfoldable pub grid : {A : Type 0} → (ℕ → ℕ → A) → ℕ → ℕ → List A
grid g m zero = []
grid g m (suc n) = grid g m n ++ tab (g n) m
