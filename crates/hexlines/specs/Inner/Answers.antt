-- What the answer of the function that looks at a line means.
use Rattle.std.specs.Prelude.{ℕ, List, Result, Ok, Err}
use Rattle.hexlines.specs.Line.{LineKind, long, hex, file}
use Rattle.hexlines.specs.declared.line.NoFile.{NoFile}
use Rattle.hexlines.specs.declared.line.NoFile.TheVariants.{Long, Hex}

-- a line, where `bytes` are those of its file
abbrev pub of_line : Result Unit NoFile → List ℕ → LineKind
of_line (Err Long) bytes = long
of_line (Err Hex) bytes = hex
of_line (Ok _) bytes = file bytes
