use Prim.Native.Nat.{◌*◌}
use lib.ListN.{length}
use Rattle.crossing.proofs.Laws.Loading.{Loading}
use Rattle.crossing.proofs.row.load_rows.Given as goal

abbrev pub invariant-loop-i : goal.invariant-loop-i
invariant-loop-i g l = Loading (λ k. g.R.Row.in_fields (g.R.Row.said l.words (g.R.Row.WORDS * k))) (λ k. g.R.Row.said l.words (g.R.Row.WORDS * k)) (length l.initial.rows) l.initial.rows l.rows l.i
