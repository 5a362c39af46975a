use Rattle.std.proofs.Common.{◌≡◌, false, take}
use Rattle.std.specs.List.{list_any}
use Rattle.model.proofs.Laws.Model.{Has}
use Rattle.model.proofs.names.taken.Given as goal

abbrev pub invariant-loop-row : goal.invariant-loop-row
invariant-loop-row g l = list_any (Has l.s g.R.Named.span_of l.rows l.name) (take l.row-index l.rows) ≡ false
