use Rattle.std.proofs.Common.{◌≡◌, List, length}
use Rattle.cdf.specs.Form.{form}
use Rattle.cdf.proofs.Laws.Place.{Took}
use Rattle.grammar.specs.Dims.{dim}
use Rattle.grammar.specs.Inner.Parts.{more_dims}
use Rattle.grammar.specs.declared.tables.Dim.{Dim}
use Rattle.grammar.proofs.dims.parse_dims.Given as goal

abbrev pub invariant-loop : goal.invariant-loop
invariant-loop l =
    (ds : List Dim) × (l.tables ≡ more_dims l.initial.tables ds) × (length ds ≡ l.counter)
    × Took (λ s size _. dim (form l.version) s size) l.count l.place l.counter ds l.at
