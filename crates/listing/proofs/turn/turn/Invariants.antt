use Rattle.std.proofs.Common.{◌+◌, ◌≤◌, length}
use Rattle.listing.proofs.Laws.Listing.{Taken}
use Rattle.listing.proofs.turn.turn.Given as goal

abbrev pub invariant-loop-next : goal.invariant-loop-next
invariant-loop-next l =
    Taken l.block l.rest l.initial.line.items l.out.items l.line.items × (length l.out.items + 84 ≤ 4096) × (length l.rest ≤ length l.block)

abbrev pub decreases-loop-next : goal.decreases-loop-next
decreases-loop-next l = length l.rest
