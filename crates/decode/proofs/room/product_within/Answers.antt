use native.Mathlib.Omega.{arith}
use Rattle.decode.proofs.Laws.Room.{product-zero, product-div}
use Rattle.decode.proofs.room.product_within.Goals as goal

pub returns-then-b-eq0 : goal.returns-then-b-eq0
returns-then-b-eq0 c = product-zero _ _ _ c.if-b-eq0.true

pub returns : goal.returns
returns c = let a = c.args in product-div a.a a.b a.n (omega arith)
