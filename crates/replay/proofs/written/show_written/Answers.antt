use Rattle.std.proofs.Common.{sym, arith, length-take-le}
use Rattle.replay.proofs.written.show_written.Goals as goal

pub slice_bounds-write_into-end : goal.slice_bounds-write_into-end
slice_bounds-write_into-end c = sym (length-take-le _ _ (omega arith))
