-- Data types by their codes (01, Header grammar: "Types 1 to 6: byte (signed), char, short, int, float, double"; BNF: nc_type, NC_BYTE to NC_DOUBLE).
use Rattle.std.specs.Prelude.{ℕ, List, [], ◌∷◌, get_or}
use Rattle.cdf.specs.Step.{Step, got, bind, need}
use Rattle.cdf.specs.Below.{between}
use Rattle.cdf.specs.Word.{non_negative}

-- "of 1, 1, 2, 4, 4, 8 bytes", from the code 1 on; no type has the code 0
abbrev pub sizes : List ℕ
sizes = 0 ∷ 1 ∷ 1 ∷ 2 ∷ 4 ∷ 4 ∷ 8 ∷ []

-- bytes of an element of the type of a code
abbrev pub size_of : ℕ → ℕ
size_of code = get_or sizes code 0

-- a type word has four bytes; 01, number 8: its code is none of 1 to the largest, after 5
unfoldable pub data_type : ℕ → List ℕ → ℕ → ℕ → Step ℕ
data_type codes s size at = bind (non_negative 4 s size at) (λ v n. need (between 1 codes v) 8 at (got v n))
