use native.Mathlib.Omega.{arith}
use Rattle.writer.proofs.Laws.Vars.{length-shape, put_three}
use Rattle.writer.proofs.rows.put_shape.Goals as goal

pub word-requires : goal.word-requires
word-requires c = let l = length-shape c.args.text.now c.args.v.now in let p = c.name.ensures.put in omega (arith, c.requires.room)

pub returns-clause-put : goal.returns-clause-put
returns-clause-put c = put_three _ _ _ c.requires.room c.name.ensures.put c.word.ensures.put c.put_each.ensures.put
