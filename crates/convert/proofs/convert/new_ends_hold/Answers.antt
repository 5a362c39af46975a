use mathlib.Core.Path.{sym, ◌∙◌}
use Rattle.sizes.proofs.Laws.When.{when-some, when-none}
use Rattle.sizes.proofs.Laws.Count.{ends_by}
use Rattle.convert.proofs.Laws.Moved.{broken}
use Rattle.convert.proofs.convert.new_ends_hold.Goals as goal

pub returns-in_default : goal.returns-in_default
returns-in_default c = broken _ c.requires.2 (when-none _ _ (sym c.measure.ensures ∙ c.in_default.is))

pub returns : goal.returns
returns c = let w = when-some _ _ (sym c.measure.ensures ∙ c.in-Some.is) in ends_by _ _ w.0 w.1 c.ends_hold.ensures
