use lib.ListN.{take}
use Prim.Native.Nat.{◌+◌, ◌*◌}
use Rattle.writer.specs.Inner.Put.{Put}
use Rattle.writer.proofs.output.copy_eights.Given as goal

abbrev pub invariant-loop-j : goal.invariant-loop-j
invariant-loop-j l = Put l.initial.bytes l.at (take (8 * l.j) l.more) l.bytes (l.at + 8 * l.j)
