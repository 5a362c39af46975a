use Rattle.std.proofs.Common.{◌≡◌, ℕ, ◌<◌, true, take}
use Rattle.model.specs.Inner.Rows.{row_ids_hold}
use Rattle.grammar.specs.Tables.{var_at}
use Rattle.model.proofs.rules.ids_hold.Given as goal

abbrev pub invariant-loop-v : goal.invariant-loop-v
invariant-loop-v l = (i : ℕ) → i < l.v-index → row_ids_hold (take l.t.ndims l.t.dims) (var_at l.t i) ≡ true
