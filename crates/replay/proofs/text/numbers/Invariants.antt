use Rattle.std.proofs.Common.{◌<◌}
use Rattle.replay.proofs.text.numbers.Given as goal

abbrev pub invariant-loop-c : goal.invariant-loop-c
invariant-loop-c l = l.field < 4
