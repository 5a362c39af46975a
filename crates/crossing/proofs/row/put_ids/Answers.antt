use borrow.Author.Rules.{rules}
use mathlib.Core.Path.{refl}
use Rattle.decode.proofs.Laws.Filled.{filled_none, filled_more}
use Rattle.crossing.proofs.row.put_ids.Goals as goal

pub loop-k-init : goal.loop-k-init
loop-k-init c = (c.requires, filled_none _ _)

pub loop-k-preserved : goal.loop-k-preserved
loop-k-preserved c = (c.requires, filled_more _ _ _ c.loop-k.invariant.1 (search rules) refl)
