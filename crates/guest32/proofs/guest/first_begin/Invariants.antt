use mathlib.Core.Path.{◌≡◌}
use Rattle.guest32.proofs.Laws.Guest.{first_upto}
use Rattle.guest32.proofs.guest.first_begin.Given as goal

abbrev pub invariant-loop-v : goal.invariant-loop-v
invariant-loop-v l = l.first ≡ first_upto l.t.tables.now l.v-index
