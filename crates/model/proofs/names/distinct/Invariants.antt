use Rattle.std.proofs.Common.{◌≡◌, ℕ, ◌<◌, true}
use Rattle.model.specs.Model.{is_new}
use Rattle.model.specs.Inner.Rows.{nth_span}
use Rattle.model.proofs.names.distinct.Given as goal

abbrev pub invariant-loop-i : goal.invariant-loop-i
invariant-loop-i g l = (k : ℕ) → k < l.i → is_new l.s (nth_span g.R.Named.span_of l.rows) k ≡ true
