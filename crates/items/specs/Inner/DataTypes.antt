-- The enum of the data types, by the codes of Types.antt.
use Rattle.std.specs.Prelude.{ℕ, ◌≡◌, false, Result, MatchResult}
use Rattle.cdf.specs.Below.{between}
use Rattle.items.specs.declared.types.DataType.{DataType}
use Rattle.items.specs.declared.types.DataType.TheVariants.{I8, U8, I16, I32, F32, F64}
use Rattle.items.specs.declared.types.UnknownCode.{UnknownCode}

-- the code of each type (BNF: NC_BYTE = 1 to NC_DOUBLE = 6)
abbrev pub code_of : DataType → ℕ
code_of I8 = 1
code_of U8 = 2
code_of I16 = 3
code_of I32 = 4
code_of F32 = 5
code_of F64 = 6

-- the type that has the code, or that no type has it
abbrev pub Decodes : ℕ → Result DataType UnknownCode → Type 0
Decodes code r = MatchResult r (λ kind. code_of kind ≡ code) (λ e. (e.0 ≡ code) × (between 1 6 code ≡ false))
