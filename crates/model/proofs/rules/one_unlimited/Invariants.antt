use Rattle.std.proofs.Common.{◌≡◌, take, eqb}
use Rattle.std.specs.List.{count_by}
use Rattle.model.proofs.rules.one_unlimited.Given as goal

abbrev pub invariant-loop-d : goal.invariant-loop-d
invariant-loop-d l = l.many ≡ count_by (λ d. eqb d.length 0) (take l.d-index l.d-items)
