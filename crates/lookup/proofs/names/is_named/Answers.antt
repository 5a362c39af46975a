use Rattle.std.proofs.Common.{◌∙◌, arith}
use Rattle.lookup.proofs.Laws.Lookup.{same-part}
use Rattle.lookup.proofs.names.is_named.Goals as goal

pub returns : goal.returns
returns c = let v = c.args.v.now in c.eq.ensures ∙ same-part c.args.s.now v.name v.chars c.args.wanted.now (omega arith) c.requires
