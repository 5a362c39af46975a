use lib.Ieee.{binary32}
use Rattle.decode.proofs.Laws.Decoded.{nan_pattern, no-nan-pattern}
use Rattle.decode.proofs.pattern.f32_of.Goals as goal

pub float_from_bits-result : goal.float_from_bits-result
float_from_bits-result c = no-nan-pattern binary32 _ c.if-b-gt4278190080.false

pub returns-then-b-gt4278190080 : goal.returns-then-b-gt4278190080
returns-then-b-gt4278190080 c = nan_pattern binary32 _ c.if-b-gt4278190080.true
