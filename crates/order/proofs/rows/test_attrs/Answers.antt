use mathlib.Core.Path.{refl, sym, ◌∙◌}
use native.Mathlib.Omega.{arith}
use borrow.Author.Count.{below_more}
use Rattle.grammar.specs.Tables.{no_attr}
use Rattle.model.proofs.Laws.Rows.{row-of, rows-enough}
use Rattle.sizes.proofs.Laws.When.{none-when, when-same}
use Rattle.order.specs.Inner.Tests.{attr_rows_tested}
use Rattle.order.proofs.Laws.Chain.{fails, holds, ended, passed, row-fails, rows-hold}
use Rattle.order.proofs.Laws.Listed.{listed-tested, listed-length}
use Rattle.order.proofs.rows.test_attrs.Goals as goal

pub returns-then-not-attr_inside-clause-tested : goal.returns-then-not-attr_inside-clause-tested
unfolding attr_rows_tested
returns-then-not-attr_inside-clause-tested c =
    let t = c.args.bounded.tables.now in
    let at = row-of t.nattrs t.attrs c.loop-a.a-index no_attr c.attrs-a-items.ensures.rows c.attrs-a-items.ensures.number c.loop-a-test.true in
    none-when _ _ (sym (ended _ (sym (row-fails _ c.loop-a.a-index (omega (arith, c.attrs-a-items.ensures.number)) (fails (rw at at c.attr_inside.ensures) c.if-not-attr_inside.true)))))

pub loop-a-preserved : goal.loop-a-preserved
loop-a-preserved c =
    let t = c.args.bounded.tables.now in
    let at = row-of t.nattrs t.attrs c.loop-a.a-index no_attr c.attrs-a-items.ensures.rows c.attrs-a-items.ensures.number c.loop-a-test.true in
    below_more _ _ c.loop-a.invariant (holds (rw at at c.attr_inside.ensures) c.if-not-attr_inside.false)

pub returns-clause-tested : goal.returns-clause-tested
unfolding attr_rows_tested
returns-clause-tested c =
    let s = c.args.text.now in
    let t = c.args.bounded.tables.now in
    let many = c.attrs-a-items.ensures.number in
    let enough = rows-enough t.nattrs t.attrs c.attrs-a-items.ensures.rows many in
    c.test_list.ensures.tested
    ∙ when-same
    (passed (sym (rows-hold _ (omega (arith, many)) c.loop-a.invariant)) (listed-tested t.attrs 0 t.globals refl (omega arith) s))
    (listed-length t.attrs 0 t.globals refl (omega arith))
