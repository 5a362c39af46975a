use Rattle.exports.proofs.Laws.Variable.{placed-got}
use Rattle.exports.proofs.variable.put.Goals as goal

pub returns : goal.returns
returns c = placed-got _ _ c.if-out-lt-WORDS.false
