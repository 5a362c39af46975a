-- Bytes that are put into an output.
use Rattle.std.specs.Prelude.{ℕ, ◌+◌, ◌≤◌, ◌≡◌, List, ◌++◌, length, take, drop}
use Rattle.writer.specs.declared.output.Output.{Output}

-- `after` is `before` with the bytes `added` from `at` on, and r is where they end; what lies before and after them stays
pub record Put (before : List ℕ) (at : ℕ) (added after : List ℕ) (r : ℕ) : Type 0 where
  pub place : r ≡ at + length added
  pub long : length after ≡ length before
  pub bytes : after ≡ take at before ++ (added ++ drop (at + length added) before)

-- an output p is o with the bytes x put where o goes on, and goes on behind them
abbrev pub Adds : Output → List ℕ → Output → Type 0
Adds o x p = Put o.bytes.now o.at x p.bytes.now p.at

-- and o has room for them
abbrev pub Room : Output → List ℕ → Type 0
Room o x = o.at + length x ≤ length o.bytes.now
