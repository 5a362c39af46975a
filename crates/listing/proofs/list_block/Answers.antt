use Rattle.listing.proofs.Laws.Listing.{taken-more, taken-none}
use Rattle.listing.proofs.list_block.Goals as goal

pub loop-rest-init : goal.loop-rest-init
loop-rest-init c = (_, taken-none _ _)

pub loop-rest-preserved : goal.loop-rest-preserved
loop-rest-preserved c = (_, taken-more c.loop-rest.invariant.1 c.turn-rest.ensures.turns.1 c.turn-rest.ensures.turns.2)
