use Rattle.std.proofs.Common.{◌≡◌, ◌*◌, ◌<◌, ℕ, get_or}
use Rattle.bigendian.specs.Lists.{tab}
use Rattle.hexlines.specs.Digit.{worth, pair}
use Rattle.hexlines.proofs.line.decode.Given as goal

abbrev pub invariant-loop-i : goal.invariant-loop-i
invariant-loop-i g l =
    (l.file.items ≡ tab (pair l.text) l.i) × ((k : ℕ) → k < l.i * 2 → worth (get_or l.text k 0) < 16)
