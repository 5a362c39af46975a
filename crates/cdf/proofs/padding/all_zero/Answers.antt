use Rattle.std.proofs.Common.{sym, ◌∙◌, arith, eq-eqb}
use Rattle.cdf.proofs.Laws.Below.{each-below, all_hold}
use Rattle.cdf.proofs.padding.all_zero.Goals as goal

pub returns : goal.returns
returns c = sym (each-below _ 0 c.args.bytes.now ∙ all_hold _ _ (λ k l. eq-eqb _ _ (c.loop-b.invariant k (omega arith))))
