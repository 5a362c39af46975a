use Rattle.cdf.proofs.Laws.ListStart.{start-within}
use Rattle.std.proofs.Common.{arith}
use Rattle.grammar.proofs.vars.parse_vars_list.Goals as goal

pub parse_vars-requires : goal.parse_vars-requires
parse_vars-requires c = (omega (arith, c.requires.0, start-within 8 4 11 64 _ _ _ c.in_ok-count.ensures.0), c.requires.1)
