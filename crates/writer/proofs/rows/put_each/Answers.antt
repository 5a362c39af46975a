use Rattle.writer.proofs.Laws.Rows.{no-items, item-room, one-item, all-items}
use mathlib.Core.Path.{refl, ◌∙◌}
use Rattle.writer.proofs.rows.put_each.Goals as goal

pub loop-item-init : goal.loop-item-init
loop-item-init g c = record { same = refl; put = no-items _ _ _ _ c.requires.room }

pub put-requires-clause-room : goal.put-requires-clause-room
put-requires-clause-room g c = item-room c.loop-item.invariant.put c.loop-item-test.true c.item-item.is

pub loop-item-preserved : goal.loop-item-preserved
loop-item-preserved g c = record {
  same = c.put.ensures.same ∙ c.loop-item.invariant.same;
  put = one-item c.loop-item.invariant.put c.loop-item-test.true c.item-item.is c.put.ensures.put;
}

pub returns-clause-put : goal.returns-clause-put
returns-clause-put g c = all-items c.loop-item.invariant.put c.loop-item-test.false
