use Rattle.guest32.proofs.Laws.Guest.{foreign-none, foreign-past}
use mathlib.Core.Path.{◌∙◌}
use native.Mathlib.Omega.{arith}
use Rattle.guest32.proofs.guest.first_foreign.Goals as goal

pub returns-then-step-eq0 : goal.returns-then-step-eq0
returns-then-step-eq0 c = λ t e. foreign-none t _ c.if-step-eq0.true e

pub returns : goal.returns
returns c = λ t e. c.min.ensures ∙ foreign-past t (omega arith) e _
