use Rattle.std.proofs.Common.{arith}
use Rattle.model.proofs.Laws.Model.{unlimited-none, unlimited-is}
use Rattle.model.proofs.rules.unlimited.Goals as goal

pub returns-then-d-eq0 : goal.returns-then-d-eq0
returns-then-d-eq0 c = unlimited-is _ _ (omega arith) c.loop-i.invariant c.if-d-eq0.true

pub returns : goal.returns
returns c = unlimited-none _ (λ k l. c.loop-i.invariant k (omega arith))
