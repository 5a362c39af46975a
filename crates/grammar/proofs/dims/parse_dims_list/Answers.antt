use Rattle.cdf.proofs.Laws.ListStart.{start-within}
use Rattle.std.proofs.Common.{arith}
use Rattle.grammar.proofs.dims.parse_dims_list.Goals as goal

pub parse_dims-requires : goal.parse_dims-requires
parse_dims-requires c = omega (arith, start-within 8 4 10 32 _ _ _ c.in_ok-count.ensures.0)
