-- Laws of names.
use Prim.Native.Nat.{ℕ, ◌+◌, ◌≤◌}
use mathlib.Core.Path.{◌≡◌, refl, ◌∙◌}
use mathlib.Core.Bool.{true}
use mathlib.Core.List.{List}
use lib.ListN.{length}
use borrow.Author.Tests.{le-leb}
use Rattle.cdf.specs.Step.{got, bind}
use Rattle.cdf.specs.Word.{nelems}
use Rattle.cdf.specs.Padding.{zero_padding}
use Rattle.items.specs.Utf8.{utf8}
use Rattle.items.specs.Name.{longest_name, part, name}
use Rattle.items.specs.Inner.NameBytes.{name_bytes}
use Rattle.cdf.proofs.Laws.Step.{by-got, by-true, bind-need, bind-hand, bind-got, bind-same, test-same}

module _ (n : ℕ) (s : List ℕ) (size at : ℕ) where
  pub name_bytes-got : at + n ≤ length s → utf8 (part s at n) ≡ true → got tt (at + n) ≡ name_bytes n s size at
  unfolding name_bytes
  name_bytes-got h u = by-true _ (le-leb _ _ h) (by-true _ u refl)

module _ (k : ℕ) (s : List ℕ) (size at : ℕ) where
  -- a name by the parts that the code reads
  name-parts : bind (nelems longest_name k s size at) (λ n p. bind (name_bytes n s size p) (λ _ e. bind (zero_padding n s size e) (λ _ q. got n q))) ≡ name k s size at
  unfolding name name_bytes
  name-parts = bind-same _ _ _ (λ n p _. bind-hand _ s size _ _ ∙ test-same _ _ (λ _. bind-need _ _ _ _ _ ∙ test-same _ _ (λ _. bind-got _ _ _)))

  module _ {n p e : ℕ} (counted : got n p ≡ nelems longest_name k s size at) (read : got tt e ≡ name_bytes n s size p) where
    pub name-got : {q : ℕ} → got tt q ≡ zero_padding n s size e → got n q ≡ name k s size at
    name-got f = by-got _ _ counted (by-got _ _ read (by-got _ _ f refl)) ∙ name-parts
