use Prim.Native.Nat.{ℕ, ◌*◌, ◌≤◌, ◌<◌}
use mathlib.Core.Path.{◌≡◌}
use mathlib.Core.Bool.{true}
use Rattle.sizes.specs.Records.{total}
use Rattle.grammar.specs.Tables.{dim_at}
use Rattle.order.specs.Writable.{dim_inside}
use Rattle.order.specs.Inner.Lengths.{dim_length}
use Rattle.order.specs.Inner.Tests.{dim_tested}
use Rattle.order.proofs.rows.test_dims.Given as goal

abbrev pub invariant-loop-d : goal.invariant-loop-d
invariant-loop-d l =
    record {
      bound : l.sum ≤ l.d-index * 34359738368;
      sum : l.sum ≡ total (λ j. dim_length (dim_at l.t.tables.now j)) l.d-index;
      inside : (k : ℕ) → k < l.d-index → dim_inside l.text l.t.tables.now k ≡ true;
      tested : (k : ℕ) → k < l.d-index → dim_tested l.text (dim_at l.t.tables.now k) ≡ true;
    }
