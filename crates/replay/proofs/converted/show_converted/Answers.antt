use Rattle.std.proofs.Common.{sym, arith, length-take-le}
use Rattle.replay.proofs.converted.show_converted.Goals as goal

pub slice_bounds-convert_into-end : goal.slice_bounds-convert_into-end
slice_bounds-convert_into-end c = sym (length-take-le _ _ (omega arith))
