use Rattle.std.proofs.Common.{List, ℕ, length}
use Rattle.listing.proofs.Laws.Listing.{Taken}
use Rattle.listing.proofs.list_block.Given as goal

abbrev pub invariant-loop-rest : goal.invariant-loop-rest
invariant-loop-rest l = (printed : List ℕ) × Taken l.block l.rest l.initial.line.items printed l.line.items

abbrev pub decreases-loop-rest : goal.decreases-loop-rest
decreases-loop-rest l = length l.rest
