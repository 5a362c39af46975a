use Rattle.std.proofs.Common.{◌≡◌, ℕ, List, length}
use Rattle.cdf.specs.Word.{non_negative}
use Rattle.cdf.proofs.Laws.Place.{Took}
use Rattle.grammar.specs.Tables.{padded}
use Rattle.grammar.proofs.vars.parse_dim_ids.Given as goal

abbrev pub invariant-loop-i : goal.invariant-loop-i
invariant-loop-i l = (is : List ℕ) × (l.ids ≡ padded 8 0 is) × (length is ≡ l.i) × Took (λ s size _. non_negative 4 s size) l.rank l.place l.i is l.at
