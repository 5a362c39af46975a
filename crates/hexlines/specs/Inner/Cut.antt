-- Lines in blocks of text.
use Rattle.std.specs.Prelude.{ℕ, ◌+◌, ◌≡◌, ◌<◌, List, ◌++◌, length, take, drop, get_or, eqb, Option, IfSome, IfNone}
use Rattle.std.specs.Borrow.{Bor}
use Rattle.cdf.specs.Below.{first_where}
use Rattle.hexlines.specs.Lines.{newline}

-- how many characters of s stand before its first line end, or all where it has none
unfoldable pub before : List ℕ → ℕ
before s = first_where (length s) (λ i. eqb (get_or s i 0) newline)

-- one character above the longest line: a line that is cut there answers as it did whole
abbrev pub kept : ℕ
kept = 16385

-- `r` is what a block leaves when its first line, or all of it, is added to `begun`, the part of a line that is at hand: what stands behind
-- the first line end, where there is one; `after` is then the first characters of the line.
pub record Cuts (block : List ℕ) (begun : List ℕ) (after : List ℕ) (r : Option (Bor (List ℕ))) : Type 0 where
  pub closed : IfSome r (λ rest. (before block < length block) × (rest.now ≡ drop (before block + 1) block))
  pub unclosed : IfNone r (before block ≡ length block)
  pub line : after ≡ take kept (begun ++ take (before block) block)
