use Rattle.std.proofs.Common.{◌∙◌, arith}
use borrow.Author.Count.{below_more}
use Rattle.model.proofs.Laws.Model.{new-row, distinct-all, distinct-not}
use Rattle.model.proofs.names.distinct.Goals as goal

pub returns-then-not-is_new : goal.returns-then-not-is_new
returns-then-not-is_new g c =
    distinct-not _ _ _ _ c.loop-i-test.true (new-row _ g.R.Named.span_of _ _ c.loop-i-test.true c.index-rows-i.is c.span.ensures c.is_new.ensures ∙ c.if-not-is_new.true)

pub loop-i-preserved : goal.loop-i-preserved
loop-i-preserved g c =
    below_more _ _ c.loop-i.invariant (new-row _ g.R.Named.span_of _ _ c.loop-i-test.true c.index-rows-i.is c.span.ensures c.is_new.ensures ∙ c.if-not-is_new.false)

pub returns : goal.returns
returns g c = distinct-all _ _ _ (λ k l. c.loop-i.invariant k (omega arith))
