-- Tests one after the other, each of which can end the answer.
use Prim.Native.Nat.{ℕ, ◌≤◌, ◌<◌}
use native.Mathlib.Omega.{arith}
use mathlib.Core.Path.{◌≡◌, sym, ◌∙◌}
use mathlib.Core.Bool.{Bool, true, false, ◌&&◌, and-false}
use Rattle.cdf.specs.Below.{all_below}
use Rattle.cdf.proofs.Laws.Below.{one-fails, all_hold}

-- what a call answered, by the test of its answer
pub fails : {r x : Bool} → r ≡ x → r ≡ false → x ≡ false
fails e h = sym e ∙ h

pub holds : {r x : Bool} → r ≡ x → r ≡ true → x ≡ true
holds e h = sym e ∙ h

-- the first test fails, or it holds and what follows it answers
pub ended : {a : Bool} (b : Bool) → a ≡ false → false ≡ (a && b)
ended b e = rw e

pub passed : {a b r : Bool} → a ≡ true → r ≡ b → r ≡ (a && b)
passed e f = rw (e, f)

-- a later test fails
pub later : (a : Bool) {b : Bool} → b ≡ false → false ≡ (a && b)
later a e = rw e (sym (and-false a))

-- a test of every row below n
pub row-fails : (p : ℕ → Bool) {n : ℕ} (i : ℕ) → i < n → p i ≡ false → false ≡ all_below n p
row-fails p i l e = sym (one-fails p _ i l e)

pub rows-hold : (p : ℕ → Bool) {n i : ℕ} → n ≤ i → ((k : ℕ) → k < i → p k ≡ true) → true ≡ all_below n p
rows-hold p {n} h f = sym (all_hold p n (λ k l. f k (omega arith)))
