-- Laws of an attribute's values.
use Prim.Native.Nat.{ℕ, ◌+◌, ◌*◌, ◌≤◌}
use mathlib.Core.Path.{◌≡◌}
use mathlib.Core.List.{List}
use lib.ListN.{length}
use borrow.Author.Tests.{le-leb}
use Rattle.cdf.specs.Step.{Step}
use Rattle.cdf.specs.Padding.{zero_padding}
use Rattle.items.specs.Values.{values}
use Rattle.cdf.proofs.Laws.Step.{by-true}

module _ (count width : ℕ) (s : List ℕ) (size at : ℕ) where
  pub values-then : {x : Step Unit} → at + count * width ≤ length s → x ≡ zero_padding (count * width) s size (at + count * width) → x ≡ values count width s size at
  unfolding values
  values-then h e = by-true _ (le-leb _ _ h) e
