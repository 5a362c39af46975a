-- The values that bytes hold (01, Header grammar: "Types 1 to 6", Records; BNF: values, BYTE, CHAR, SHORT, INT, FLOAT, DOUBLE).
use Rattle.std.specs.Prelude.{ℕ, ℤ, Float}
use Rattle.std.specs.Float.{binary32, binary64}
use Rattle.std.specs.Float.Ieee.{of_bits}
use Rattle.std.specs.Int.{w8, w16, w32}
use Rattle.std.proofs.Common.{to_z}

-- the value of a type that a big-endian number stands for: two's complement for byte, short and int, IEEE 754 for float and double, where
-- every NaN pattern is the one `nan`. A char is its number, and so are the bits of a float or a double
abbrev pub byte : ℕ → ℤ
byte b = to_z w8 b

-- a short (BNF: SHORT), as the number of its 16 bits
abbrev pub short : ℕ → ℤ
short b = to_z w16 b

-- an int (BNF: INT), as the number of its 32 bits
abbrev pub int : ℕ → ℤ
int b = to_z w32 b

-- a float (BNF: FLOAT): IEEE 754, every NaN pattern being the one NaN
abbrev pub float : ℕ → Float
float b = of_bits binary32 b

-- a double (BNF: DOUBLE), likewise
abbrev pub double : ℕ → Float
double b = of_bits binary64 b

-- the bits themselves
abbrev pub raw : ℕ → ℕ
raw b = b
