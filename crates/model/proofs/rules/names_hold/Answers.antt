use Rattle.std.proofs.Common.{arith, refl, sym, ◌∙◌}
use borrow.Author.Count.{below_none, below_more}
use Rattle.grammar.specs.Tables.{no_dim, no_var, no_attr, var_at}
use Rattle.model.proofs.Laws.Rows.{row-below, row-at, rows-done}
use Rattle.model.proofs.Laws.Model.{distinct_first, distinct_from, names-dims, names-vars, names-globals, names-own, names-all}
use Rattle.model.proofs.rules.names_hold.Goals as goal

pub returns-then-not-distinct : goal.returns-then-not-distinct
returns-then-not-distinct c =
    let t = c.args.t.now in
    names-dims c.args.s.now t (sym (distinct_first c.args.s.now _ t.dims no_dim t.ndims (omega arith)) ∙ sym c.distinct.ensures ∙ c.if-not-distinct.true)

pub returns-then-not-distinct-2 : goal.returns-then-not-distinct-2
returns-then-not-distinct-2 c =
    let t = c.args.t.now in
    names-vars c.args.s.now t (sym (distinct_first c.args.s.now _ t.vars no_var t.nvars (omega arith)) ∙ sym c.distinct-2.ensures ∙ c.if-not-distinct-2.true)

pub returns-then-not-distinct-3 : goal.returns-then-not-distinct-3
returns-then-not-distinct-3 c =
    let s = c.args.s.now in
    let t = c.args.t.now in
    names-globals s t
    (sym (distinct_first s _ t.dims no_dim t.ndims (omega arith)) ∙ sym c.distinct.ensures ∙ c.if-not-distinct.false)
    (sym (distinct_first s _ t.vars no_var t.nvars (omega arith)) ∙ sym c.distinct-2.ensures ∙ c.if-not-distinct-2.false)
    (sym (distinct_from s _ t.attrs no_attr 0 t.globals refl (omega arith)) ∙ sym c.distinct-3.ensures ∙ c.if-not-distinct-3.true)

pub loop-v-init : goal.loop-v-init
loop-v-init c =
    let s = c.args.s.now in
    let t = c.args.t.now in
    record {
      dims = sym (distinct_first s _ t.dims no_dim t.ndims (omega arith)) ∙ sym c.distinct.ensures ∙ c.if-not-distinct.false;
      vars = sym (distinct_first s _ t.vars no_var t.nvars (omega arith)) ∙ sym c.distinct-2.ensures ∙ c.if-not-distinct-2.false;
      globals = sym (distinct_from s _ t.attrs no_attr 0 t.globals refl (omega arith)) ∙ sym c.distinct-3.ensures ∙ c.if-not-distinct-3.false;
      own = below_none _;
    }

pub returns-then-not-distinct-4 : goal.returns-then-not-distinct-4
returns-then-not-distinct-4 c =
    let s = c.args.s.now in
    let t = c.args.t.now in
    let i = c.loop-v.v-index in
    let l = c.loop-v.invariant in
    let inside = row-below t.nvars t.vars _ no_var c.loop-v-test.true in
    let h = rw (row-at t.nvars t.vars _ no_var c.loop-v-test.true) at c.distinct-in-loop-v.ensures in
    let v = var_at t i in
    names-own s t l.dims l.vars l.globals i inside (sym (distinct_from s _ t.attrs no_attr v.first v.attrs (omega arith) (omega (arith, (c.requires.rows i inside).span))) ∙ sym h ∙ c.if-not-distinct-4.true)

pub loop-v-preserved : goal.loop-v-preserved
loop-v-preserved c =
    let s = c.args.s.now in
    let t = c.args.t.now in
    let i = c.loop-v.v-index in
    let l = c.loop-v.invariant in
    let inside = row-below t.nvars t.vars _ no_var c.loop-v-test.true in
    let h = rw (row-at t.nvars t.vars _ no_var c.loop-v-test.true) at c.distinct-in-loop-v.ensures in
    let v = var_at t i in
    record {
      dims = l.dims;
      vars = l.vars;
      globals = l.globals;
      own = below_more _ _ l.own (sym (distinct_from s _ t.attrs no_attr v.first v.attrs (omega arith) (omega (arith, (c.requires.rows i inside).span))) ∙ sym h ∙ c.if-not-distinct-4.false);
    }

pub returns : goal.returns
returns c =
    let t = c.args.t.now in
    let l = c.loop-v.invariant in
    let n = rows-done t.nvars t.vars _ (omega arith) c.loop-v-test.false in
    names-all c.args.s.now t l.dims l.vars l.globals (λ k h. l.own k (omega arith))
