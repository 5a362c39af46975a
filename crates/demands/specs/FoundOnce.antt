-- A variable that is found once and kept (01, Records: the element, record and whole-variable reads of the tables): its reads answer as those of the tables do.
use Rattle.std.specs.Prelude.{ℕ, ◌≡◌, List, Some}
use Rattle.cdf.specs.Step.{into}
use Rattle.grammar.specs.declared.tables.Tables.{Tables}
use Rattle.found.specs.Sought.{sought}
use Rattle.reads.specs.Reads.{record_read, record_from, whole_read, whole_from}
use Rattle.reads.specs.Element.{value_of, element_read, element_read_as, element_from, element_from_as, bits_from}
use Rattle.reads.specs.declared.bits.Bits.{Bits}

-- records and whole variables
unfoldable pub KeptOutputs : Type 1
KeptOutputs =
    (A : Type 0) (F : ℕ → A) (code : ℕ) (t : Tables) (s : List ℕ) (start i : ℕ) (out : List A)
    → ((r : ℕ) → record_from F code (sought t i) s start r out ≡ record_read F code t s start i r out)
    × (whole_from F code (sought t i) s start out ≡ whole_read F code t s start i out)

-- elements; the value is the one that the code and the bits stand for, and there is one
unfoldable pub KeptElements : Type 0
KeptElements =
    (t : Tables) (s : List ℕ) (start i r e : ℕ)
    → (element_from (sought t i) s start r e ≡ element_read t s start i r e)
    × ((code : ℕ) → element_from_as code (sought t i) s start r e ≡ element_read_as code t s start i r e)
    × (into (λ (b : Bits). value_of b.code b.bits) (bits_from (sought t i) s start r e) ≡ into Some (element_read t s start i r e))
