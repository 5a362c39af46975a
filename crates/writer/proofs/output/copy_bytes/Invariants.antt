use lib.ListN.{take}
use Prim.Native.Nat.{◌+◌}
use Rattle.writer.specs.Inner.Put.{Put}
use Rattle.writer.proofs.output.copy_bytes.Given as goal

abbrev pub invariant-loop-i : goal.invariant-loop-i
invariant-loop-i l = Put l.initial.bytes l.at (take l.i l.more) l.bytes (l.at + l.i)
