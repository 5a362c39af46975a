use Rattle.outputs.proofs.Laws.Outputs.{converted-refused, converted-told}
use Rattle.outputs.proofs.Laws.Numbers.{convert-numbered}
use Rattle.convert.specs.Convert.{convert}
use Rattle.exports.proofs.converted.fungal_narrow.Goals as goal

pub returns-in-Ok : goal.returns-in-Ok
returns-in-Ok c = converted-told (convert 1 c.args.prefix.now c.args.size c.args.out.now) _ _ _ _ (convert-numbered 1 _ _ _) c.in-Ok.ensures.0 c.in-Ok.ensures.1

pub returns-in-Err : goal.returns-in-Err
returns-in-Err c = rw c.number.ensures (converted-refused (convert 1 c.args.prefix.now c.args.size c.args.out.now) _ _ _ _ c.in-Err.ensures.0 c.in-Err.ensures.1)
