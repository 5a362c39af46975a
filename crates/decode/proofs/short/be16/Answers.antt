use Rattle.decode.proofs.Laws.Pairs.{be-2}
use Rattle.decode.proofs.short.be16.Goals as goal

pub returns : goal.returns
returns c = cc (be-2 c.args.s.now c.args.at)
