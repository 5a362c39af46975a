use native.Mathlib.Omega.{arith}
use Prim.Native.Nat.{◌*◌}
use mathlib.Core.Path.{ap, ◌∙◌}
use Rattle.items.specs.Types.{size_of}
use Rattle.items.specs.Inner.DataTypes.{code_of}
use Rattle.items.proofs.Laws.Types.{size-high}
use Rattle.writer.proofs.Laws.Rows.{bytes-fit-wide}
use Rattle.writer.proofs.rows.value_bytes.Goals as goal

-- src/rows.rt:62:6
pub overflow_mul-result : goal.overflow_mul-result
overflow_mul-result c = let s = c.size_of.ensures in let h = size-high (code_of c.of_code.result) in let b = bytes-fit-wide c.args.count c.size_of.result (omega arith) (omega arith) in omega arith

-- src/rows.rt:58:1
pub returns : goal.returns
returns c = ap (λ n. c.args.count * n) (c.size_of.ensures ∙ ap size_of c.of_code.ensures)
