use Rattle.std.proofs.Common.{arith}
use Rattle.std.proofs.lemmas.Grind.{common_steps}
use Rattle.listing.proofs.Laws.Listing.{taken-line, taken-part}
use Rattle.listing.proofs.turn.turn.Goals as goal

pub returns-then-remaining_capacity-lt-MOST-clause-turns : goal.returns-then-remaining_capacity-lt-MOST-clause-turns
returns-then-remaining_capacity-lt-MOST-clause-turns c =
    let n = c.in-Some.ensures.closed in
    let t = taken-line c.loop-next.invariant.0 c.cut_line.ensures.line c.as_slice.ensures.value n.0 n.1 c.put_answer.ensures.text in
    (t.part, t.whole, rw c.clear-in-Some.ensures t.so)

pub loop-next-preserved : goal.loop-next-preserved
loop-next-preserved c =
    let n = c.in-Some.ensures.closed in
    let t = taken-line c.loop-next.invariant.0 c.cut_line.ensures.line c.as_slice.ensures.value n.0 n.1 c.put_answer.ensures.text in
    (rw c.clear-in-Some.ensures t, grind (arith, common_steps), grind (arith, common_steps, n.1))

pub returns-clause-turns : goal.returns-clause-turns
returns-clause-turns c =
    let t = taken-part c.loop-next.invariant.0 c.cut_line.ensures.line c.in_default.ensures.unclosed in
    (t.part, t.whole, t.so)
