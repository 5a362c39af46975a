use mathlib.Core.Path.{◌≡◌}
use mathlib.Core.Bool.{true}
use lib.Dec.{ltb}
use lib.ListN.{take}
use Rattle.std.specs.List.{list_all}
use Rattle.grammar.specs.declared.tables.Var.{Var}
use Rattle.convert.proofs.begins.begins_below.Given as goal

abbrev pub invariant-loop-v : goal.invariant-loop-v
invariant-loop-v l = list_all (λ (v : Var). ltb v.begin l.limit) (take l.v-index (take l.t.nvars l.t.vars)) ≡ true
