use Rattle.sizes.proofs.Laws.Records.{first_lengths}
use Rattle.sizes.specs.Inner.Sizes.{capped}
use mathlib.Core.Path.{◌≡◌}
use Rattle.sizes.proofs.records.chunk_len.Given as goal

abbrev pub invariant-loop-id : goal.invariant-loop-id
invariant-loop-id l = l.product ≡ capped (first_lengths l.dims l.v l.id-index)
