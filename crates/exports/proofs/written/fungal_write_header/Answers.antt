use mathlib.Core.Path.{refl}
use Rattle.cdf.proofs.Laws.Refusals.{refused}
use Rattle.writer.specs.Writes.{write_header}
use Rattle.outputs.proofs.Laws.Outputs.{list-is}
use Rattle.exports.proofs.Laws.Reader.{load-stop, write-refused, write-told}
use Rattle.exports.proofs.written.fungal_write_header.Goals as goal

pub returns-in-Err : goal.returns-in-Err
returns-in-Err c = rw c.number.ensures (list-is _ _ refl (load-stop _ (λ t. write_header c.args.text.now t c.args.out.now) c.in-Err.ensures))

pub returns-in-Ok-write_header : goal.returns-in-Ok-write_header
returns-in-Ok-write_header c = write-told _ _ _ _ c.in-Ok.ensures c.in-Ok-write_header.ensures.0 refl c.in-Ok-write_header.ensures.1

pub returns-in-Err-write_header : goal.returns-in-Err-write_header
returns-in-Err-write_header c = rw c.number-in-Err-write_header.ensures (write-refused _ _ _ _ c.in-Ok.ensures c.in-Err-write_header.ensures.0 (refused _))
