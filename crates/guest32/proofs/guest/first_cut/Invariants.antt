use Prim.Native.Nat.{ℕ, ◌<◌}
use mathlib.Core.Path.{◌≡◌}
use mathlib.Core.Bool.{false}
use Rattle.grammar.specs.Tables.{var_at}
use Rattle.guest32.specs.Guest.{cut_short}
use Rattle.guest32.proofs.guest.first_cut.Given as goal

abbrev pub invariant-loop-i : goal.invariant-loop-i
invariant-loop-i l = (k : ℕ) → k < l.i → cut_short l.t.tables.now.dims (var_at l.t.tables.now k) ≡ false
