use Prim.Native.Nat.{ℕ, ◌+◌, ◌*◌, ◌≤◌, ◌<◌}
use mathlib.Core.Path.{◌≡◌}
use mathlib.Core.Bool.{true}
use lib.ListN.{get_or}
use Rattle.sizes.specs.Records.{total}
use Rattle.grammar.specs.Tables.{no_attr}
use Rattle.order.specs.Inner.Lengths.{attr_length}
use Rattle.order.specs.Inner.Tests.{attr_tested}
use Rattle.order.proofs.rows.test_list.Given as goal

abbrev pub invariant-loop-a : goal.invariant-loop-a
invariant-loop-a l =
    record {
      bound : l.sum ≤ l.a-index * 68719476736;
      sum : l.sum ≡ total (λ j. attr_length (get_or l.rows (0 + j) no_attr)) l.a-index;
      tested : (k : ℕ) → k < l.a-index → attr_tested l.text (get_or l.rows (0 + k) no_attr) ≡ true;
    }
