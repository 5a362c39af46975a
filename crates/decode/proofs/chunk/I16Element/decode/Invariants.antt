use Prim.Native.Nat.{◌*◌, ◌+◌, ◌-◌}
use Rattle.decode.specs.Decoded.{short}
use Rattle.decode.specs.Inner.Chunks.{of_chunk}
use Rattle.decode.proofs.Laws.Filled.{Filled}
use Rattle.decode.proofs.chunk.I16Element.decode.Given as goal

abbrev pub invariant-loop-j : goal.invariant-loop-j
invariant-loop-j l = Filled (of_chunk short 2 l.src) l.initial.out l.out (4 * l.j)

abbrev pub invariant-loop-k : goal.invariant-loop-k
invariant-loop-k l = Filled (of_chunk short 2 l.src) l.initial.out l.out (l.n - l.rest + l.k)
