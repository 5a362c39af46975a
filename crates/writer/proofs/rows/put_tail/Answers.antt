use native.Mathlib.Omega.{arith}
use Rattle.rules.proofs.Laws.Spelled.{length-spelled}
use Rattle.writer.proofs.Laws.Vars.{length-tail, put_three}
use Rattle.writer.proofs.rows.put_tail.Goals as goal

pub word-requires : goal.word-requires
word-requires c = let l = length-tail c.args.version c.args.v.now in omega (arith, c.requires)

pub word-requires-2 : goal.word-requires-2
word-requires-2 c = let l = length-tail c.args.version c.args.v.now in let p = c.word.ensures.put in let w = length-spelled 4 c.args.v.now.code in omega (arith, c.requires)

pub begin-requires : goal.begin-requires
begin-requires c =
    let l = length-tail c.args.version c.args.v.now in
    let p = c.word.ensures.put in
    let q = c.word-2.ensures.put in
    let w = length-spelled 4 c.args.v.now.code in
    let x = length-spelled 4 c.args.v.now.vsize in
    omega (arith, c.requires)

pub returns-clause-put : goal.returns-clause-put
returns-clause-put c = put_three _ _ _ c.requires c.word.ensures.put c.word-2.ensures.put c.begin.ensures.put
