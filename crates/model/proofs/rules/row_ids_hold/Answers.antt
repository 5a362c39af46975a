use Rattle.std.proofs.Common.{arith, sym}
use borrow.Author.Count.{below_none, below_more}
use Rattle.cdf.proofs.Laws.Below.{all_hold, one-fails}
use Rattle.model.specs.Inner.Rows.{row_ids_hold}
use Rattle.model.proofs.Laws.Model.{id-first, id-fixed, id-large, id-later}
use Rattle.model.proofs.rules.row_ids_hold.Goals as goal
use Rattle.model.proofs.rules.row_ids_hold.Goals.{else-later-via-then-later+else-dims-id-eq0, else-later-via-else-later}

pub loop-k-init : goal.loop-k-init
loop-k-init c = below_none _

pub returns-then-dims-id : goal.returns-then-dims-id
unfolding row_ids_hold
returns-then-dims-id c = let v = c.args.v.now in sym (one-fails _ v.rank _ c.loop-k-test.true (id-large c.args.dims.now v _ c.if-dims-id.true))

pub returns-then-dims-id-eq0 : goal.returns-then-dims-id-eq0
unfolding row_ids_hold
returns-then-dims-id-eq0 c = let v = c.args.v.now in sym (one-fails _ v.rank _ c.loop-k-test.true (id-later c.args.dims.now v _ (omega arith) c.if-dims-id-eq0.true))

pub loop-k-preserved : goal.loop-k-preserved
loop-k-preserved c =
    let ds = c.args.dims.now in
    let v = c.args.v.now in
    below_more _ _ c.loop-k.invariant
    (elim c.else-later.branch [
      | else-later-via-then-later+else-dims-id-eq0 w ↦ id-fixed ds v _ c.if-dims-id.false w.if-dims-id-eq0.false
      | else-later-via-else-later w ↦ id-first ds v _ c.if-dims-id.false (omega arith)
    ])

pub returns : goal.returns
unfolding row_ids_hold
returns c = sym (all_hold _ c.args.v.now.rank (λ j l. c.loop-k.invariant j (omega arith)))
