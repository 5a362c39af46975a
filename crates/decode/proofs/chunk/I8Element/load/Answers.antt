use Rattle.std.proofs.Common.{w8}
use Rattle.decode.proofs.Laws.Decoded.{byte_at, stored}
use Rattle.decode.proofs.chunk.I8Element.load.Goals as goal

pub returns : goal.returns
returns c = stored w8 c.cast_signed.type_inv c.cast_signed.ensures (byte_at _ _)
