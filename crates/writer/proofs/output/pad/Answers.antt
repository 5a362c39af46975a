use Rattle.writer.proofs.Laws.Put.{pad-none, pad-some}
use Rattle.writer.proofs.output.pad.Goals as goal

pub returns-then-n-eq0 : goal.returns-then-n-eq0
returns-then-n-eq0 c = pad-none _ _ _ c.if-n-eq0.true

pub returns : goal.returns
returns c = pad-some _ _ _ c.if-n-eq0.false c.requires.0 c.requires.1
