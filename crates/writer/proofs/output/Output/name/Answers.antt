use native.Mathlib.Omega.{arith}
use Rattle.items.specs.Name.{part}
use Rattle.rules.proofs.Laws.Sound.{length_part}
use Rattle.rules.proofs.Laws.Spelled.{length-spelled}
use Rattle.writer.proofs.Laws.Put.{put-name, length-name, slice-part}
use Rattle.writer.proofs.output.Output.name.Goals as goal

pub word-requires : goal.word-requires
word-requires c = let l = length-name (part c.args.text.now c.args.name c.args.chars) in omega arith

pub padded-requires : goal.padded-requires
padded-requires c =
    let l = length-name (part c.args.text.now c.args.name c.args.chars) in
    let p = c.word.ensures.put in
    let w = length-spelled 4 c.args.chars in
    rw (slice-part c.args.name c.args.chars) (omega arith)

pub returns-clause-put : goal.returns-clause-put
returns-clause-put c = put-name (part c.args.text.now c.args.name c.args.chars) c.args.chars (length_part c.args.text.now c.args.name c.args.chars (omega arith)) c.requires.room c.word.ensures.put (rw (slice-part c.args.name c.args.chars) at c.padded.ensures.put)
