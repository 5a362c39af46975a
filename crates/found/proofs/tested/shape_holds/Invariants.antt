use mathlib.Core.Path.{◌≡◌}
use mathlib.Core.Bool.{true}
use lib.ListN.{take}
use Rattle.std.specs.List.{list_all}
use Rattle.found.specs.Inner.Row.{row_holds}
use Rattle.found.proofs.tested.shape_holds.Given as goal

abbrev pub invariant-loop-v : goal.invariant-loop-v
invariant-loop-v l = list_all row_holds (take l.v-index l.v-items) ≡ true
