use Prim.Native.Nat.{◌^◌}
use lib.Dec.{ltb}
use Rattle.crossing.specs.Words.{word_at}
use Rattle.crossing.proofs.Laws.Loading.{Loading}
use Rattle.crossing.proofs.row.take_ids.Given as goal

abbrev pub invariant-loop-k : goal.invariant-loop-k
invariant-loop-k l = Loading (λ k. ltb (word_at l.words k) (2 ^ 32)) (word_at l.words) 8 l.initial.ids l.ids l.k
