use Rattle.std.proofs.Common.{arith}
use Rattle.std.proofs.lemmas.Grind.{common_steps}
use Rattle.hexlines.proofs.Laws.Text.{decimal-is, few-digits}
use Rattle.hexlines.proofs.text.put_decimal.Goals as goal

pub returns-clause-text : goal.returns-clause-text
returns-clause-text g c =
    let few = few-digits c.args.n _ c.decimal-k.ensures.len (omega arith) in
    let d = decimal-is _ _ _ c.decimal-k.ensures.len few c.decimal-k.ensures.digits in
    grind (arith, common_steps, d)
