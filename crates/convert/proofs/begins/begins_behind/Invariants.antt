use mathlib.Core.Path.{◌≡◌}
use mathlib.Core.Bool.{true}
use lib.Dec.{leb}
use lib.ListN.{take}
use Rattle.std.specs.List.{list_all}
use Rattle.grammar.specs.declared.tables.Var.{Var}
use Rattle.convert.proofs.begins.begins_behind.Given as goal

abbrev pub invariant-loop-v : goal.invariant-loop-v
invariant-loop-v l = list_all (λ (v : Var). leb l.end v.begin) (take l.v-index (take l.t.nvars l.t.vars)) ≡ true
