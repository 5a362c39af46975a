-- What the answer of a function that tests a variable means.
use Rattle.std.specs.Prelude.{Result, Ok, Err}
use Rattle.cdf.specs.Step.{Step, got, stop}
use Rattle.cdf.specs.Refusals.{number}
use Rattle.cdf.specs.declared.refusal.Refusal.{Refusal}
use Rattle.found.specs.declared.variable.Spread.{Spread}
use Rattle.reads.specs.declared.bounded.Kept.{Kept}

-- the numbers that were tested, or the refusal by its number
abbrev pub of_kept : Result Kept Refusal → Step Spread
of_kept (Ok v) = got v.spread 0
of_kept (Err k) = stop (number k) 0
