use Rattle.grammar.proofs.Laws.Tables.{padded-more, length_more}
use Rattle.grammar.specs.Tables.{padded}
use Rattle.grammar.specs.Inner.Parts.{dimids}
use Rattle.cdf.proofs.Laws.Place.{took_none, took_more, took-stop, took_done}
use Rattle.cdf.proofs.Laws.Step.{into-got, into-stop}
use Rattle.std.proofs.Common.{[], refl, arith}
use Rattle.std.proofs.lemmas.Grind.{common_steps}
use Rattle.grammar.proofs.vars.parse_dim_ids.Goals as goal

pub loop-i-init : goal.loop-i-init
unfolding padded
loop-i-init c = ([], refl, refl, took_none)

pub returns-in_err-id : goal.returns-in_err-id
unfolding dimids
returns-in_err-id c =
    let l = c.loop-i.invariant in
    let e = into-stop (padded 8 0) (took-stop l.3 c.loop-i-test.true c.in_err-id.ensures.0) in
    grind (arith, common_steps, e)

pub loop-i-preserved : goal.loop-i-preserved
loop-i-preserved c =
    let l = c.loop-i.invariant in
    let e = c.in_ok-id.ensures in
    (_, rw (← l.2, l.1) (padded-more 8 0 c.in_ok-id.id l.0), omega (arith, length_more l.0 c.in_ok-id.id, l.2), took_more l.3 c.loop-i-test.true e.0 e.1)

pub returns : goal.returns
unfolding dimids
returns c = let l = c.loop-i.invariant in (into-got (padded 8 0) l.1 (took_done l.3 c.loop-i-test.false), l.3.same)
