use Rattle.std.proofs.Common.{sym, ◌∙◌}
use Rattle.model.proofs.Laws.Rows.{any-more, any-found, any-none}
use Rattle.model.proofs.Laws.Model.{has-row}
use Rattle.model.proofs.names.taken.Goals as goal

pub returns-then-same_name : goal.returns-then-same_name
returns-then-same_name g c =
    let rows = c.args.rows.now in
    sym (any-found _ rows c.row-item.result _ c.loop-row-test.true (has-row _ g.R.Named.span_of rows _ c.loop-row.row-index c.row-item.is c.span.ensures c.same_name.ensures ∙ c.if-same_name.true))

pub loop-row-preserved : goal.loop-row-preserved
loop-row-preserved g c =
    let rows = c.args.rows.now in
    any-more _ rows c.row-item.result _ c.loop-row-test.true c.loop-row.invariant (has-row _ g.R.Named.span_of rows _ c.loop-row.row-index c.row-item.is c.span.ensures c.same_name.ensures ∙ c.if-same_name.false)

pub returns : goal.returns
returns g c = sym (any-none _ _ _ c.loop-row-test.false c.loop-row.invariant)
