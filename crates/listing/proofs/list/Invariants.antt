use Rattle.std.proofs.Common.{List, ℕ}
use Rattle.listing.specs.Listing.{Turns}
use Rattle.listing.proofs.list.Given as goal

abbrev pub invariant-loop : goal.invariant-loop
invariant-loop l = (input : List ℕ) × (printed : List ℕ) × Turns l.initial.line.items input printed l.line.items
