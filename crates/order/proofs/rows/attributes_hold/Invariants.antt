use Prim.Native.Nat.{◌+◌, ◌*◌, ◌≤◌}
use mathlib.Core.Path.{◌≡◌}
use Rattle.order.specs.Inner.Tests.{attributes_upto}
use Rattle.order.proofs.rows.attributes_hold.Given as goal

abbrev pub invariant-loop-v : goal.invariant-loop-v
invariant-loop-v l = record { bound : l.count ≤ 128 + l.v-index * 255; upto : l.count ≡ attributes_upto l.t.tables.now l.v-index }
