use Rattle.std.proofs.Common.{◌≡◌, ℕ, ◌<◌}
use Rattle.grammar.specs.Tables.{dim_at}
use Rattle.model.proofs.rules.unlimited.Given as goal

abbrev pub invariant-loop-i : goal.invariant-loop-i
invariant-loop-i l = (k : ℕ) → k < l.i → (dim_at l.t k).length ≡ 0 → ⊥
