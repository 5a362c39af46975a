use Rattle.std.proofs.Common.{arith}
use Rattle.std.proofs.lemmas.Grind.{common_steps}
use Rattle.listing.proofs.Laws.Listing.{file-text, refusal-text}
use Rattle.listing.proofs.answer.put_file.Goals as goal

pub returns-in-Ok-clause-text : goal.returns-in-Ok-clause-text
returns-in-Ok-clause-text c =
    let f = file-text _ c.in-Ok.ensures in
    grind (arith, common_steps, f)

pub returns-in-Err-clause-text : goal.returns-in-Err-clause-text
returns-in-Err-clause-text c =
    let f = refusal-text _ _ _ c.number.ensures c.in-Err.ensures in
    grind (arith, common_steps, f)
