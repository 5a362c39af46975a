use Rattle.cdf.proofs.Laws.Magic.{begins_part}
use mathlib.Core.Path.{◌∙◌}
use Rattle.cdf.proofs.version.begins.Goals as goal

pub returns : goal.returns
returns c = c.agree.ensures ∙ begins_part _ _ _ c.args.place.inside
