use Rattle.std.proofs.Common.{◌≡◌, ◌≤◌, ◌+◌, List, length}
use Rattle.cdf.specs.Form.{form}
use Rattle.cdf.proofs.Laws.Place.{Took}
use Rattle.grammar.specs.Vars.{var}
use Rattle.grammar.specs.Tree.{VarItem, attrs_of}
use Rattle.grammar.specs.Inner.Parts.{more_vars}
use Rattle.grammar.proofs.vars.parse_vars.Given as goal

abbrev pub invariant-loop : goal.invariant-loop
invariant-loop l =
    (vs : List VarItem) × (l.tables ≡ more_vars l.initial.tables vs) × (length vs ≡ l.counter) × (l.tables.nattrs ≤ 128)
    × Took (λ s size vs. var (form l.version) s size (l.initial.tables.nattrs + length (attrs_of vs))) l.count l.place l.counter vs l.at
