use mathlib.Core.Path.{◌≡◌}
use lib.ListN.{length, get_or}
use Rattle.decode.proofs.Laws.Filled.{Filled}
use Rattle.crossing.proofs.row.put_ids.Given as goal

abbrev pub invariant-loop-k : goal.invariant-loop-k
invariant-loop-k l = (length l.initial.out ≡ 8) × Filled (λ j. get_or l.ids j 0) l.initial.out l.out l.k
