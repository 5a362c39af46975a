-- What a version changes in the grammar (01, Header grammar; BNF: VERSION, NON_NEG, OFFSET, ABSENT, nc_type). Versions 1 and 2 differ in the
-- bytes of a begin alone; the other three fields are the same in both, and stand here because the format has a third version.
use Rattle.std.specs.Prelude.{ℕ, cond, eqb}

-- the widths and limits that depend on the version
pub record Form : Type 0 where
  -- bytes of a count, length, id or vsize
  pub word_bytes : ℕ
  -- bytes of a begin
  pub begin_bytes : ℕ
  -- the largest type code
  pub codes : ℕ
  -- bytes of an absent list
  pub absent_bytes : ℕ

-- version 1, classic, and version 2, 64-bit offset. Asked only of a version byte that was admitted, so of 1 or 2
abbrev pub form : ℕ → Form
form v = record { word_bytes = 4; begin_bytes = cond (eqb v 1) 4 8; codes = 6; absent_bytes = 8 }
