use Rattle.crossing.proofs.Laws.Joined.{rows_none, rows_all, rows_more}
use Rattle.crossing.proofs.row.store_rows.Goals as goal

pub loop-i-init : goal.loop-i-init
loop-i-init g c = rows_none _ _ g.met.R.Row.wide _ _ c.requires

pub loop-i-preserved : goal.loop-i-preserved
loop-i-preserved g c = rows_more _ _ g.met.R.Row.wide c.loop-i.invariant c.WORDS.ensures c.WORDS-in-loop-i.ensures c.loop-i-test.true c.index-rows-i.is c.put.ensures

pub returns : goal.returns
returns g c = rows_all _ _ g.met.R.Row.wide c.loop-i.invariant c.loop-i-test.false
