use Prim.Native.Nat.{◌*◌, ◌≤◌}
use mathlib.Core.Path.{◌≡◌}
use lib.ListN.{length, get_or}
use Rattle.sizes.specs.Records.{total}
use Rattle.grammar.specs.Tables.{no_dim}
use Rattle.order.specs.Inner.Lengths.{dim_length}
use Rattle.convert.proofs.length.dims_len.Given as goal

abbrev pub invariant-loop-d : goal.invariant-loop-d
invariant-loop-d l = record {
  few : length l.dims ≤ 32;
  small : l.sum ≤ l.d-index * 34359738368;
  is : l.sum ≡ total (λ j. dim_length (get_or l.dims j no_dim)) l.d-index;
}
