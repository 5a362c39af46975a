use Rattle.std.proofs.Common.{[]}
use Rattle.listing.proofs.Laws.Listing.{turns-none, turns_then}
use Rattle.listing.proofs.list.Goals as goal

pub loop-init : goal.loop-init
loop-init c = ([], [], turns-none _)

pub loop-preserved : goal.loop-preserved
loop-preserved c = (_, _, turns_then c.loop.invariant.2 c.list_block.ensures.1)
