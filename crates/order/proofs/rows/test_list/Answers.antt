use mathlib.Core.Path.{sym}
use native.Mathlib.Omega.{arith}
use borrow.Author.Count.{below_none, below_more}
use Rattle.sizes.proofs.Laws.When.{some-when, none-when}
use Rattle.order.specs.Inner.Tests.{attrs_tested}
use Rattle.order.proofs.Laws.Chain.{fails, holds, row-fails, rows-hold}
use Rattle.order.proofs.Laws.Sums.{sum-none, sum_more, length-from-zero, attrs-all}
use Rattle.order.proofs.Laws.Words.{tested-from-zero}
use Rattle.order.proofs.rows.test_list.Goals as goal

pub loop-a-init : goal.loop-a-init
loop-a-init c = record { bound = omega arith; sum = sum-none _; tested = below_none _ }

pub returns-then-not-attr_holds-clause-tested : goal.returns-then-not-attr_holds-clause-tested
unfolding attrs_tested
returns-then-not-attr_holds-clause-tested c =
    none-when _ _ (sym (row-fails _ c.loop-a.a-index c.loop-a-test.true (tested-from-zero _ c.args.rows.now c.loop-a.a-index (fails c.attr_holds.ensures c.if-not-attr_holds.true))))

pub loop-a-preserved : goal.loop-a-preserved
loop-a-preserved c =
    let l = c.loop-a.invariant in
    record {
      bound = omega arith;
      sum = sum_more _ _ l.sum (length-from-zero c.args.rows.now c.loop-a.a-index c.attr_len-sum.ensures.0);
      tested = below_more _ _ l.tested (tested-from-zero _ c.args.rows.now c.loop-a.a-index (holds c.attr_holds.ensures c.if-not-attr_holds.false));
    }

pub returns-clause-tested : goal.returns-clause-tested
unfolding attrs_tested
returns-clause-tested c = let l = c.loop-a.invariant in some-when _ _ (sym (rows-hold _ (omega arith) l.tested)) (attrs-all _ _ (omega arith) l.sum)
