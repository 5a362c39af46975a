use native.Mathlib.Omega.{arith}
use Rattle.decode.proofs.Laws.Filled.{filled_none, filled_more, filled-all}
use Rattle.decode.proofs.element.Element.decode.Goals as goal

pub loop-i-init : goal.loop-i-init
loop-i-init g c = filled_none _ _

pub loop-i-preserved : goal.loop-i-preserved
loop-i-preserved g c = filled_more _ _ _ c.loop-i.invariant (omega arith) (rw c.WIDTH.ensures at c.load.ensures)

pub returns : goal.returns
returns g c = filled-all _ _ c.loop-i.invariant (omega arith)
