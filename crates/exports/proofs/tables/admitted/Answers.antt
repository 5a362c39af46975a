use Rattle.exports.specs.Reader.{admitted}
use mathlib.Core.Path.{refl}
use Rattle.exports.proofs.tables.admitted.Goals as goal

pub returns : goal.returns
unfolding admitted
returns c = refl
