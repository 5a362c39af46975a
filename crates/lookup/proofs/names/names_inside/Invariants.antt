use mathlib.Core.Path.{◌≡◌}
use mathlib.Core.Bool.{true}
use lib.Dec.{leb}
use lib.ListN.{length, take}
use Prim.Native.Nat.{◌+◌}
use Rattle.std.specs.List.{list_all}
use Rattle.grammar.specs.declared.tables.Var.{Var}
use Rattle.lookup.proofs.names.names_inside.Given as goal

abbrev pub invariant-loop-v : goal.invariant-loop-v
invariant-loop-v l = list_all (λ (v : Var). leb (v.name + v.chars) (length l.s)) (take l.v-index l.v-items) ≡ true
