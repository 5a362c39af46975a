use mathlib.Core.Path.{ap}
use native.Mathlib.Omega.{arith}
use Rattle.grammar.specs.Tables.{no_var}
use Rattle.grammar.specs.declared.tables.Var.{Var}
use Rattle.model.proofs.Laws.Rows.{row-of}
use Rattle.order.proofs.Laws.Totals.{upto-none, upto-more, upto_all}
use Rattle.order.proofs.rows.attributes_hold.Goals as goal

pub loop-v-init : goal.loop-v-init
loop-v-init c = record { bound = omega arith; upto = upto-none c.args.t.tables.now }

pub loop-v-preserved : goal.loop-v-preserved
loop-v-preserved c =
    let t = c.args.t.tables.now in
    let vs = c.vars-v-items.ensures in
    let at = row-of t.nvars t.vars c.loop-v.v-index no_var vs.rows vs.number c.loop-v-test.true in
    record { bound = omega arith; upto = upto-more t _ c.loop-v.invariant.upto (ap (λ (v : Var). v.attrs) at) }

pub returns : goal.returns
returns c = upto_all c.args.t.tables.now (omega (arith, c.vars-v-items.ensures.number)) c.loop-v.invariant.upto
