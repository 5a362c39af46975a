use Prim.Native.Nat.{◌+◌, ◌-◌}
use mathlib.Core.Path.{◌≡◌, sym, ◌∙◌}
use native.Mathlib.Omega.{arith}
use lib.ListN.{get_or}
use borrow.Author.Count.{below_none, below_more}
use Rattle.grammar.specs.Tables.{no_var, var_at}
use Rattle.model.proofs.Laws.Rows.{row-of}
use Rattle.sizes.proofs.Laws.When.{when-some, when-none, some-when, none-when}
use Rattle.order.specs.Inner.Tests.{vars_tested, var_rows_tested}
use Rattle.order.proofs.Laws.Chain.{fails, holds, ended, passed, later, row-fails, rows-hold}
use Rattle.order.proofs.Laws.Inside.{attr-rows, var-row}
use Rattle.order.proofs.Laws.Listed.{length-listed, listed-tested, listed-length, listed-inside}
use Rattle.order.proofs.Laws.Sums.{sum-none, sum_more, var-all, vars-all}
use Rattle.order.proofs.Laws.Tested.{var-fails}
use Rattle.order.proofs.rows.test_vars.Goals as goal

pub loop-v-init : goal.loop-v-init
loop-v-init c = record { bound = omega arith; sum = sum-none _; inside = below_none _; tested = below_none _ }

pub returns-then-not-var_inside-clause-tested : goal.returns-then-not-var_inside-clause-tested
unfolding var_rows_tested
returns-then-not-var_inside-clause-tested c =
    let t = c.args.bounded.tables.now in
    let vs = c.vars-v-items.ensures in
    let at = row-of t.nvars t.vars _ no_var vs.rows vs.number c.loop-v-test.true in
    none-when _ _ (sym (ended _ (sym (row-fails _ c.loop-v.v-index (omega (arith, vs.number)) (fails (rw at at c.var_inside.ensures) c.if-not-var_inside.true)))))

pub returns-then-not-var_holds-clause-tested : goal.returns-then-not-var_holds-clause-tested
returns-then-not-var_holds-clause-tested c =
    let t = c.args.bounded.tables.now in
    let vs = c.vars-v-items.ensures in
    let at = row-of t.nvars t.vars _ no_var vs.rows vs.number c.loop-v-test.true in
    none-when _ _ (sym (var-fails _ t _ (omega (arith, vs.number)) (sym (ended _ (fails (rw at at c.var_holds.ensures) c.if-not-var_holds.true)))))

pub test_list-requires-clause-inside : goal.test_list-requires-clause-inside
test_list-requires-clause-inside c =
    let s = c.args.text.now in
    let t = c.args.bounded.tables.now in
    let v = get_or c.vars-v-items.result.now c.loop-v.v-index no_var in
    let row = (var-row s t.nattrs v (holds c.var_inside.ensures c.if-not-var_inside.false)).2 in
    listed-inside t.attrs v.first v.attrs (omega arith) (omega (arith, row, c.args.bounded.attrs)) s row (attr-rows s t c.requires)

pub returns-in_err-own-clause-tested : goal.returns-in_err-own-clause-tested
returns-in_err-own-clause-tested c =
    let s = c.args.text.now in
    let t = c.args.bounded.tables.now in
    let vs = c.vars-v-items.ensures in
    let v = get_or c.vars-v-items.result.now c.loop-v.v-index no_var in
    let at = row-of t.nvars t.vars _ no_var vs.rows vs.number c.loop-v-test.true in
    let row = (var-row s t.nattrs v (holds c.var_inside.ensures c.if-not-var_inside.false)).2 in
    let e = sym (listed-tested t.attrs v.first v.attrs (omega arith) (omega (arith, row, c.args.bounded.attrs)) s) ∙ when-none _ _ (sym c.test_list.ensures.tested ∙ c.in_err-own.was) in
    c.from_residual.ensures
    ∙ none-when _ _ (sym (var-fails s t _ (omega (arith, vs.number)) (sym (passed (holds (rw at at c.var_holds.ensures) c.if-not-var_holds.false) (sym (rw at at e))))))

pub loop-v-preserved : goal.loop-v-preserved
loop-v-preserved c =
    let s = c.args.text.now in
    let t = c.args.bounded.tables.now in
    let l = c.loop-v.invariant in
    let vs = c.vars-v-items.ensures in
    let v = get_or c.vars-v-items.result.now c.loop-v.v-index no_var in
    let at = row-of t.nvars t.vars _ no_var vs.rows vs.number c.loop-v-test.true in
    let row = (var-row s t.nattrs v (holds c.var_inside.ensures c.if-not-var_inside.false)).2 in
    let own = when-some _ _ (sym c.test_list.ensures.tested ∙ c.in_ok-own.was) in
    let tested = sym (listed-tested t.attrs v.first v.attrs (omega arith) (omega (arith, row, c.args.bounded.attrs)) s) ∙ own.0 in
    let bytes = own.1 ∙ listed-length t.attrs v.first v.attrs (omega arith) (omega (arith, row, c.args.bounded.attrs)) in
    let same : v.first + v.attrs - v.first ≡ v.attrs = omega arith in
    let many = length-listed t.attrs v.first v.attrs same (omega (arith, row, c.args.bounded.attrs)) in
    record {
      bound = omega (arith, row, c.args.bounded.attrs, c.in_ok-own.ensures.bound, many);
      sum = sum_more _ _ l.sum (var-all t (var_at t c.loop-v.v-index) (rw at at c.var_len.ensures.0) (rw at at bytes));
      inside = below_more _ _ l.inside (holds (rw at at c.var_inside.ensures) c.if-not-var_inside.false);
      tested = below_more _ _ l.tested (sym (passed (holds (rw at at c.var_holds.ensures) c.if-not-var_holds.false) (sym (rw at at tested))));
    }

pub returns-then-not-attributes_hold-clause-tested : goal.returns-then-not-attributes_hold-clause-tested
unfolding var_rows_tested
returns-then-not-attributes_hold-clause-tested c =
    none-when _ _ (sym (later _ (sym (later _ (fails c.attributes_hold.ensures c.if-not-attributes_hold.true)))))

pub returns-clause-tested : goal.returns-clause-tested
unfolding var_rows_tested vars_tested
returns-clause-tested c =
    let t = c.args.bounded.tables.now in
    let l = c.loop-v.invariant in
    let vs = c.vars-v-items.ensures in
    some-when _ _
    (sym (passed (sym (rows-hold _ (omega (arith, vs.number)) l.inside))
    (passed (sym (rows-hold _ (omega (arith, vs.number)) l.tested)) (sym (holds c.attributes_hold.ensures c.if-not-attributes_hold.false)))))
    (vars-all t (omega (arith, vs.number)) l.sum)
