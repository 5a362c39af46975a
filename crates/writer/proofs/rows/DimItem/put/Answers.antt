use native.Mathlib.Omega.{arith}
use Rattle.writer.proofs.Laws.Rows.{length-dim, put-dim}
use Rattle.writer.proofs.rows.DimItem.put.Goals as goal

pub name-requires-clause-room : goal.name-requires-clause-room
name-requires-clause-room c = let l = length-dim c.args.text.now c.args.self.now in omega (arith, c.requires.room)

pub word-requires : goal.word-requires
word-requires c = let l = length-dim c.args.text.now c.args.self.now in let p = c.name.ensures.put in omega (arith, c.requires.room)

pub returns-clause-put : goal.returns-clause-put
returns-clause-put c = put-dim c.args.text.now c.args.self.now c.requires.room c.name.ensures.put c.word.ensures.put
