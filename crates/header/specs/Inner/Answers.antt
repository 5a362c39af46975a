-- What the answers of the functions below the header reader mean, as steps.
use Rattle.std.specs.Prelude.{ℕ, Result, Ok, Err}
use Rattle.cdf.specs.Step.{Step, got, stop}
use Rattle.cdf.specs.Refusals.{number}
use Rattle.cdf.specs.declared.refusal.Refusal.{Refusal}
use Rattle.grammar.specs.Tables.{with_count}
use Rattle.grammar.specs.declared.tables.Tables.{Tables}

-- tables whose header ends at a place, with the record count that they were found to have, or the refusal
abbrev pub counted : Tables → ℕ → Result ℕ Refusal → Step Tables
counted t e (Ok n) = got (with_count t n) e
counted t e (Err k) = stop (number k) 0
