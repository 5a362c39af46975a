use Rattle.decode.specs.Inner.Chunks.{of_record}
use Rattle.decode.proofs.Laws.Tabled.{Tabled}
use Rattle.decode.proofs.strided.records.Given as goal

abbrev pub invariant-loop-k : goal.invariant-loop-k
invariant-loop-k g l = let t = g.T.Element in Tabled (of_record t.value t.WIDTH l.src l.stride) l.chunk l.initial.out l.out l.k
