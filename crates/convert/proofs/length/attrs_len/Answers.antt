use native.Mathlib.Omega.{arith}
use borrow.Author.Rules.{rules}
use Rattle.order.proofs.Laws.Sums.{sum-none, sum_more, length-from-zero, attrs-all}
use Rattle.convert.proofs.length.attrs_len.Goals as goal

pub loop-a-init : goal.loop-a-init
loop-a-init c = record { few = c.requires; small = omega arith; is = sum-none _ }

pub loop-a-preserved : goal.loop-a-preserved
loop-a-preserved c = record { few = c.requires; small = search rules; is = sum_more _ _ c.loop-a.invariant.is (length-from-zero c.args.attrs.now c.loop-a.a-index c.attr_len-sum.ensures.0) }

pub returns : goal.returns
returns c = (attrs-all _ _ (omega arith) c.loop-a.invariant.is, omega arith)
