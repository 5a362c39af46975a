-- Laws of a variable that a caller keeps.
use Prim.Native.Nat.{ℕ, ◌≤◌}
use native.Mathlib.Omega.{arith}
use mathlib.Core.Path.{◌≡◌, refl, ap, ◌∙◌}
use mathlib.Core.List.{List, [], ◌∷◌, ◌++◌}
use lib.ListN.{length, get_or, set, drop}
use borrow.Author.Tests.{le-leb}
use Rattle.cdf.specs.Step.{got, Leaves}
use Rattle.cdf.proofs.Laws.Step.{by-true, leaves-got}
use Rattle.found.specs.declared.variable.Spread.{Spread}
use Rattle.exports.specs.Variable.{spread_words, placed, spread_of, taken}

pub taken-got : (s : List ℕ) → 5 ≤ length s → 1 ≤ get_or s 4 0 → {v : Spread} → get_or s 4 0 ≤ 6 → v ≡ spread_of s → got v 0 ≡ taken s
unfolding taken
taken-got s enough low h e = by-true _ (rw (le-leb 5 (length s) enough, le-leb 1 (get_or s 4 0) low, le-leb (get_or s 4 0) 6 h)) (ap (λ (x : Spread). got x 0) e)

-- five stores, one after the other
five : (v : Spread) (d : List ℕ) → 5 ≤ length d → set (set (set (set (set d 0 v.begin) 1 v.records) 2 v.step) 3 v.chunk) 4 v.code ≡ spread_words v ++ drop 5 d
unfolding spread_words
five v [] l = absurd (omega arith)
five v (a ∷ []) l = absurd (omega arith)
five v (a ∷ b ∷ []) l = absurd (omega arith)
five v (a ∷ b ∷ c ∷ []) l = absurd (omega arith)
five v (a ∷ b ∷ c ∷ d ∷ []) l = absurd (omega arith)
five v (a ∷ b ∷ c ∷ d ∷ e ∷ r) l = refl

module _ (v : Spread) (out : List ℕ) where
  pub placed-got : 5 ≤ length out → Leaves out (placed out v) 0 (set (set (set (set (set out 0 v.begin) 1 v.records) 2 v.step) 3 v.chunk) 4 v.code)
  unfolding placed
  placed-got h = leaves-got out (ap (λ (x : List ℕ). got x 0) (five v out h) ∙ by-true _ (le-leb 5 (length out) h) refl)
