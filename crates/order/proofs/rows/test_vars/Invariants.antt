use Prim.Native.Nat.{ℕ, ◌*◌, ◌≤◌, ◌<◌}
use mathlib.Core.Path.{◌≡◌}
use mathlib.Core.Bool.{true}
use Rattle.sizes.specs.Records.{total}
use Rattle.grammar.specs.Tables.{var_at}
use Rattle.order.specs.Writable.{var_inside}
use Rattle.order.specs.Inner.Lengths.{var_length}
use Rattle.order.specs.Inner.Tests.{var_all_tested}
use Rattle.order.proofs.rows.test_vars.Given as goal

abbrev pub invariant-loop-v : goal.invariant-loop-v
invariant-loop-v l =
    record {
      bound : l.sum ≤ l.v-index * 17592186044416;
      sum : l.sum ≡ total (λ j. var_length l.t (var_at l.t j)) l.v-index;
      inside : (j : ℕ) → j < l.v-index → var_inside l.text l.t j ≡ true;
      tested : (j : ℕ) → j < l.v-index → var_all_tested l.text l.t (var_at l.t j) ≡ true;
    }
