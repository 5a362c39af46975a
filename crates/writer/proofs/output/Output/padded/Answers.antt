use native.Mathlib.Omega.{arith}
use Rattle.writer.proofs.Laws.Put.{put-padded, length-padded_out}
use Rattle.writer.proofs.output.Output.padded.Goals as goal

pub put-requires : goal.put-requires
put-requires c = let l = length-padded_out c.args.more.now in omega arith

pub zeros-requires : goal.zeros-requires
zeros-requires c =
    let l = length-padded_out c.args.more.now in
    let p = c.put.ensures.put in
    omega arith

pub returns-clause-put : goal.returns-clause-put
returns-clause-put c = put-padded _ _ c.compute_padding_size.ensures c.requires c.put.ensures.put c.zeros.ensures.put
