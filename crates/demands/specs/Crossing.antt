-- Tables and variables that cross to another language and are handed in again: nothing is lost on the way, and reads through them answer as reads of
-- the tables.
use Rattle.std.specs.Prelude.{ℕ, ◌≡◌, List, ◌++◌}
use Rattle.cdf.specs.Step.{Step, got, number_of}
use Rattle.grammar.specs.declared.tables.Tables.{Tables}
use Rattle.found.specs.Sought.{sought}
use Rattle.reads.specs.Reads.{record_read, record_from, whole_read, whole_from}
use Rattle.reads.specs.Element.{element_read, element_from}
use Rattle.found.specs.declared.variable.Spread.{Spread}
use Rattle.crossing.specs.Words.{table_words, Full, loaded}
use Rattle.outputs.specs.Outputs.{Gets}
use Rattle.exports.specs.Variable.{spread_words, taken}

-- loading what was stored gives the same tables, whatever words follow
unfoldable pub StoredIsLoaded : Type 0
StoredIsLoaded = (t : Tables) (rest : List ℕ) → Full t → loaded (table_words t ++ rest) ≡ got t 0

-- and taking up a variable that was put down gives the same variable
unfoldable pub PlacedIsTaken : Type 0
PlacedIsTaken = (t : Tables) (i : ℕ) (v : Spread) (rest : List ℕ) → sought t i ≡ got v 0 → taken (spread_words v ++ rest) ≡ sought t i

-- so a read of a variable that a caller kept answers as the read of the tables that it was found in
unfoldable pub PlacedIsRead : Type 1
PlacedIsRead =
    (A : Type 0) (F : ℕ → A) (code : ℕ) (t : Tables) (s : List ℕ) (start i : ℕ) (out : List A) (v : Spread) (rest : List ℕ)
    → sought t i ≡ got v 0
    → ((r : ℕ) → record_from F code (taken (spread_words v ++ rest)) s start r out ≡ record_read F code t s start i r out)
    × (whole_from F code (taken (spread_words v ++ rest)) s start out ≡ whole_read F code t s start i out)
    × ((r e : ℕ) → element_from (taken (spread_words v ++ rest)) s start r e ≡ element_read t s start i r e)

-- a refusal leaves every output of an exported function (01, Answer numbers: "all outputs stay untouched" in any refusal)
unfoldable pub RefusalsLeaveParts : Type 1
RefusalsLeaveParts = (A B : Type 0) (y : Step A) (k : ℕ) (part : A → ℕ → B) (old new : B) → k ≡ number_of y → (k ≡ 0 → ⊥) → Gets y part old new → new ≡ old
