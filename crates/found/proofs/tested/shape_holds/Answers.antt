use Rattle.std.proofs.Common.{sym, ap, ◌∙◌, arith}
use Rattle.std.proofs.lemmas.List.Folds.{list_all_at}
use Rattle.std.proofs.lemmas.List.{take_all}
use Rattle.std.specs.List.{list_all}
use Rattle.grammar.specs.Tables.{no_var}
use Rattle.model.proofs.Laws.Rows.{all-of}
use Rattle.found.specs.Inner.Row.{row_holds}
use Rattle.found.proofs.Laws.Sought.{shape-is}
use Rattle.found.proofs.tested.shape_holds.Goals as goal

pub returns-then-not-row_holds : goal.returns-then-not-row_holds
returns-then-not-row_holds c =
    let t = c.args.t.now in
    let v = c.vars-v-items in
    sym (list_all_at row_holds _ _ no_var c.loop-v-test.true (sym c.row_holds.ensures ∙ c.if-not-row_holds.true))
    ∙ all-of row_holds t.vars no_var t.nvars v.ensures.rows v.ensures.number
    ∙ shape-is t (omega arith) (omega arith)

pub returns : goal.returns
returns c =
    let t = c.args.t.now in
    let v = c.vars-v-items in
    sym c.loop-v.invariant
    ∙ ap (list_all row_holds) (take_all _ _ c.loop-v-test.false)
    ∙ all-of row_holds t.vars no_var t.nvars v.ensures.rows v.ensures.number
    ∙ shape-is t (omega arith) (omega arith)
