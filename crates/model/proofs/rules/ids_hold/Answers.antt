use Rattle.std.proofs.Common.{arith, sym, ◌∙◌}
use borrow.Author.Count.{below_more}
use Rattle.grammar.specs.Tables.{no_var}
use Rattle.model.proofs.Laws.Rows.{row-below, row-at, rows-done}
use Rattle.model.proofs.Laws.Model.{ids-by, ids-not}
use Rattle.model.proofs.rules.ids_hold.Goals as goal

pub returns-then-not-row_ids_hold : goal.returns-then-not-row_ids_hold
returns-then-not-row_ids_hold c =
    let t = c.args.t.now in
    let l = c.loop-v-test.true in
    ids-not t (omega arith) _ (row-below t.nvars t.vars _ no_var l) (sym (rw (row-at t.nvars t.vars _ no_var l) at c.row_ids_hold.ensures) ∙ c.if-not-row_ids_hold.true)

pub loop-v-preserved : goal.loop-v-preserved
loop-v-preserved c =
    let t = c.args.t.now in
    below_more _ _ c.loop-v.invariant (sym (rw (row-at t.nvars t.vars _ no_var c.loop-v-test.true) at c.row_ids_hold.ensures) ∙ c.if-not-row_ids_hold.false)

pub returns : goal.returns
returns c =
    let t = c.args.t.now in
    let n = rows-done t.nvars t.vars _ (omega arith) c.loop-v-test.false in
    ids-by t (omega arith) (λ i l. c.loop-v.invariant i (omega arith))
