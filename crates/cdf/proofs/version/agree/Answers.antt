use Rattle.std.proofs.Common.{arith}
use Rattle.cdf.proofs.Laws.Magic.{agree-all, agree-not}
use Rattle.cdf.proofs.version.agree.Goals as goal

pub returns-then-bytes-i : goal.returns-then-bytes-i
returns-then-bytes-i c = agree-not c.args.bytes.now c.args.pattern.now c.loop-i.i (omega arith) c.if-bytes-i.true

pub returns : goal.returns
returns c = agree-all _ _ (λ k l. c.loop-i.invariant k (omega arith))
