use native.Mathlib.Omega.{arith}
use mathlib.Core.Path.{◌∙◌}
use Rattle.grammar.specs.Tables.{no_var}
use Rattle.model.proofs.Laws.Rows.{row-of}
use Rattle.guest32.proofs.Laws.Guest.{upto-none, upto-record, upto-fixed, upto_all}
use Rattle.guest32.proofs.guest.first_begin.Goals as goal
use Rattle.guest32.proofs.guest.first_begin.Goals.{then-is_record, else-is_record}

pub loop-v-init : goal.loop-v-init
loop-v-init c = upto-none c.args.t.tables.now

pub loop-v-preserved : goal.loop-v-preserved
loop-v-preserved c =
    let t = c.args.t.tables.now in
    let i = c.loop-v.v-index in
    let vs = c.vars-v-items.ensures in
    let at = row-of t.nvars t.vars i no_var vs.rows vs.number c.loop-v-test.true in
    let is = rw at at c.is_record.ensures in
    elim c.if-is_record.branch [
      | then-is_record w ↦ w.first-is ∙ upto-record t i is w.if-is_record.true c.loop-v.invariant (rw at at w.min-first.ensures)
      | else-is_record w ↦ w.first-is ∙ upto-fixed t i is w.if-is_record.false c.loop-v.invariant
    ]

pub returns : goal.returns
returns c = upto_all c.args.t.tables.now (omega (arith, c.vars-v-items.ensures.number)) c.loop-v.invariant
