use native.Mathlib.Omega.{arith}
use Rattle.rules.proofs.Laws.Spelled.{length-spelled}
use Rattle.writer.proofs.Laws.Put.{slice-part}
use Rattle.writer.proofs.Laws.Rows.{length-attr, put-attr}
use Rattle.writer.proofs.rows.AttrItem.put.Goals as goal

pub name-requires-clause-room : goal.name-requires-clause-room
name-requires-clause-room c = let l = length-attr c.args.text.now c.args.self.now in omega (arith, c.requires.room)

pub word-requires : goal.word-requires
word-requires c = let l = length-attr c.args.text.now c.args.self.now in let p = c.name.ensures.put in omega (arith, c.requires.room)

pub word-requires-2 : goal.word-requires-2
word-requires-2 c =
    let l = length-attr c.args.text.now c.args.self.now in
    let p = c.name.ensures.put in
    let q = c.word.ensures.put in
    let w = length-spelled 4 c.args.self.now.code in
    omega (arith, c.requires.room)

pub padded-requires : goal.padded-requires
padded-requires c =
    let l = length-attr c.args.text.now c.args.self.now in
    let p = c.name.ensures.put in
    let q = c.word.ensures.put in
    let r = c.word-2.ensures.put in
    let w = length-spelled 4 c.args.self.now.code in
    let x = length-spelled 4 c.args.self.now.count in
    rw (slice-part c.args.self.now.values c.value_bytes.result, c.value_bytes.ensures) (omega (arith, c.requires.room))

pub returns-clause-put : goal.returns-clause-put
returns-clause-put c =
    put-attr c.args.text.now c.args.self.now c.requires.room c.name.ensures.put c.word.ensures.put c.word-2.ensures.put
    (rw (slice-part c.args.self.now.values c.value_bytes.result, c.value_bytes.ensures) at c.padded.ensures.put)
