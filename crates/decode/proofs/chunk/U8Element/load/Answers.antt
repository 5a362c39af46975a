use Rattle.decode.proofs.Laws.Decoded.{byte_at}
use Rattle.decode.proofs.chunk.U8Element.load.Goals as goal

pub returns : goal.returns
returns c = byte_at _ _
