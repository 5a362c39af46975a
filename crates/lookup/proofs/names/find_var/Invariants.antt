use Rattle.std.proofs.Common.{◌≡◌, ℕ, ◌<◌, false}
use Rattle.lookup.specs.Lookup.{is_named}
use Rattle.lookup.proofs.names.find_var.Given as goal

abbrev pub invariant-loop-i : goal.invariant-loop-i
invariant-loop-i l = (k : ℕ) → k < l.i → is_named l.s l.t l.name k ≡ false
