use native.Mathlib.Omega.{arith}
use Rattle.rules.proofs.Laws.Spelled.{length-spelled}
use Rattle.writer.proofs.rows.U32Item.put.Goals as goal

pub word-requires : goal.word-requires
word-requires c = let l = length-spelled 4 c.args.self.now in omega (arith, c.requires.room)
