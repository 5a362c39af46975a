use native.Mathlib.Omega.{arith}
use Rattle.order.proofs.Laws.Sums.{values-fit, attr-by}
use borrow.Author.Rules.{rules}
use Rattle.order.proofs.length.attr_len.Goals as goal

pub overflow_mul-bytes : goal.overflow_mul-bytes
overflow_mul-bytes c = let h = values-fit c.args.a.count c.width.result (search rules) c.width.ensures.1 in omega arith

pub overflow_add-result-2 : goal.overflow_add-result-2
overflow_add-result-2 c = let h = values-fit c.args.a.count c.width.result (search rules) c.width.ensures.1 in omega arith

pub overflow_add-result-3 : goal.overflow_add-result-3
overflow_add-result-3 c = let h = values-fit c.args.a.count c.width.result (search rules) c.width.ensures.1 in omega arith

pub returns : goal.returns
returns c = let h = values-fit c.args.a.count c.width.result (search rules) c.width.ensures.1 in (attr-by c.args.a c.width.ensures.0 c.name_len.ensures c.compute_padding_size.ensures, omega arith)
