-- Headers and tables that cross to another language.
use Rattle.std.specs.Prelude.{ℕ, ◌/◌, ◌%◌, List, eqb}
use Rattle.cdf.specs.Step.{Step, got, bind}
use Rattle.cdf.specs.declared.version.Admitted.{Admitted}
use Rattle.grammar.specs.declared.tables.Tables.{Tables}
use Rattle.crossing.specs.Words.{stored, loaded}
use Rattle.header.specs.Header.{read_header, after_header}

-- the versions that a number admits, a bit for each (01: "the admitted versions (1, 2 or both)")
unfoldable pub admitted : ℕ → Admitted
admitted n = record { classic = eqb (n % 2) 1; offset64 = eqb (n / 2 % 2) 1 }

-- the tables of a header in an output: the header's refusals, then 22. Its place is the header's end
unfoldable pub header_words : List ℕ → ℕ → ℕ → List ℕ → Step (List ℕ)
header_words s size versions out = after_header (read_header s size (admitted versions)) (λ h. bind (stored h.tables out) (λ o _. got o h.end))

-- what is answered of tables that are handed in: 23 where they are none
abbrev pub of_tables : {A : Type 0} → List ℕ → (Tables → Step A) → Step A
of_tables words f = bind (loaded words) (λ t _. f t)
