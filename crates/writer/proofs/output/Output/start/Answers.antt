use native.Mathlib.Omega.{arith}
use Rattle.rules.proofs.Laws.Spelled.{length-spelled}
use Rattle.writer.proofs.Laws.Put.{put-absent, put-tagged}
use Rattle.writer.proofs.output.Output.start.Goals as goal

pub returns-then-n-eq0-clause-put : goal.returns-then-n-eq0-clause-put
returns-then-n-eq0-clause-put c = put-absent _ _ c.if-n-eq0.true c.put.ensures.put

pub word-requires-else-n-eq0 : goal.word-requires-else-n-eq0
word-requires-else-n-eq0 c = let l = length-spelled 4 c.args.tag in let p = c.word.ensures.put in omega arith

pub returns-else-n-eq0-clause-put : goal.returns-else-n-eq0-clause-put
returns-else-n-eq0-clause-put c = put-tagged _ _ (omega arith) (omega (arith, c.if-n-eq0.false)) c.requires c.word.ensures.put c.word-else-n-eq0.ensures.put
