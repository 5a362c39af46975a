use Rattle.cdf.proofs.Laws.Word.{nelems-within}
use native.Mathlib.Omega.{arith}
use Rattle.items.proofs.name.parse_name_string.Goals as goal

pub overflow_cast-result : goal.overflow_cast-result
overflow_cast-result c = omega (arith, nelems-within 4 _ _ _ 256 c.in_ok-count.ensures.0)
