use Rattle.crossing.proofs.Laws.Joined.{Rows}
use Rattle.crossing.proofs.row.store_rows.Given as goal

abbrev pub invariant-loop-i : goal.invariant-loop-i
invariant-loop-i g l = Rows g.R.Row.numbers g.R.Row.WORDS l.rows l.initial.out l.out l.i
