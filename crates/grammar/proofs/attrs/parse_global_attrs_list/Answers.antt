use Rattle.cdf.proofs.Laws.ListStart.{start-within}
use Rattle.std.proofs.Common.{arith}
use Rattle.grammar.proofs.attrs.parse_global_attrs_list.Goals as goal

pub parse_attrs-requires : goal.parse_attrs-requires
parse_attrs-requires c = omega (arith, start-within 8 4 12 128 _ _ _ c.in_ok-count.ensures.0)
