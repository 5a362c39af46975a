use Rattle.decode.specs.Inner.Chunks.{of_chunk}
use Rattle.decode.proofs.Laws.Filled.{Filled}
use Rattle.decode.proofs.element.Element.decode.Given as goal

abbrev pub invariant-loop-i : goal.invariant-loop-i
invariant-loop-i g l = let t = g.Self.Element in Filled (of_chunk t.value t.WIDTH l.src) l.initial.out l.out l.i
