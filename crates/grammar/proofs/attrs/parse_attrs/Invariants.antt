use Rattle.std.proofs.Common.{◌≡◌, List, length}
use Rattle.cdf.specs.Form.{form}
use Rattle.cdf.proofs.Laws.Place.{Took}
use Rattle.grammar.specs.Attrs.{attr}
use Rattle.grammar.specs.Inner.Parts.{more_attrs}
use Rattle.grammar.specs.declared.tables.Attr.{Attr}
use Rattle.grammar.proofs.attrs.parse_attrs.Given as goal

abbrev pub invariant-loop : goal.invariant-loop
invariant-loop l =
    (xs : List Attr) × (l.tables ≡ more_attrs l.initial.tables xs) × (length xs ≡ l.counter)
    × Took (λ s size _. attr (form l.version) s size) l.count l.place l.counter xs l.at
