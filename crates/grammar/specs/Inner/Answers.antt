-- What the answer of the function that reads a header means, as a step.
use Rattle.std.specs.Prelude.{ℕ, Result, Ok, Err}
use Rattle.cdf.specs.Step.{Step, got, stop}
use Rattle.cdf.specs.Refusals.{number}
use Rattle.cdf.specs.declared.refusal.Stop.{Stop}
use Rattle.grammar.specs.declared.tables.Tables.{Tables}

-- the tables and where the header ends, or the refusal
abbrev pub of_header : Result (Tables × ℕ) Stop → Step Tables
of_header (Ok (t, n)) = got t n
of_header (Err r) = stop (number r.why) r.place
