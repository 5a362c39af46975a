use lib.Ieee.{binary64}
use Rattle.decode.proofs.Laws.Decoded.{nan_pattern, no-nan-pattern}
use Rattle.decode.proofs.pattern.f64_of.Goals as goal

pub float_from_bits-result : goal.float_from_bits-result
float_from_bits-result c = no-nan-pattern binary64 _ c.if-b-gt18437736874454810624.false

pub returns-then-b-gt18437736874454810624 : goal.returns-then-b-gt18437736874454810624
returns-then-b-gt18437736874454810624 c = nan_pattern binary64 _ c.if-b-gt18437736874454810624.true
