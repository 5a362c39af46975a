use Prim.Native.Nat.{◌+◌, ◌*◌, ◌≤◌}
use mathlib.Core.Path.{◌≡◌}
use lib.ListN.{length, get_or}
use Rattle.sizes.specs.Records.{total}
use Rattle.grammar.specs.Tables.{no_attr}
use Rattle.order.specs.Inner.Lengths.{attr_length}
use Rattle.convert.proofs.length.attrs_len.Given as goal

abbrev pub invariant-loop-a : goal.invariant-loop-a
invariant-loop-a l = record {
  few : length l.attrs ≤ 128;
  small : l.sum ≤ l.a-index * 68719476736;
  is : l.sum ≡ total (λ j. attr_length (get_or l.attrs (0 + j) no_attr)) l.a-index;
}
