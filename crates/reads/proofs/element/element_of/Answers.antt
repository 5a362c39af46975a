use mathlib.Core.Path.{refl, sym, ap, ◌∙◌}
use Rattle.std.specs.Prelude.{Option}
use Rattle.cdf.specs.Step.{got}
use Rattle.cdf.proofs.Laws.Step.{by-got}
use Rattle.reads.specs.declared.element.Value.{Value}
use Rattle.reads.specs.Element.{value_of, element_of}
use Rattle.reads.proofs.Laws.Element.{spot_got}
use Rattle.reads.proofs.element.element_of.Goals as goal

pub returns : goal.returns
unfolding element_of
returns c =
    let a = c.args in
    by-got _ _ (ap (λ (x : Option Value). got x 0) (sym c.value_at.ensures) ∙ spot_got _ _ _ _ a.kept.spread c.in_ok-at.ensures a.kept.bounded.size value_of refl) refl
