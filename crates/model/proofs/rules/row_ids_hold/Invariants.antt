use Rattle.std.proofs.Common.{◌≡◌, ℕ, ◌<◌, true}
use Rattle.model.specs.Inner.Rows.{id_among}
use Rattle.model.proofs.rules.row_ids_hold.Given as goal

abbrev pub invariant-loop-k : goal.invariant-loop-k
invariant-loop-k l = (j : ℕ) → j < l.k → id_among l.dims l.v j ≡ true
