use mathlib.Core.Path.{ap, ◌∙◌}
use Rattle.header.specs.Header.{refusal, read_header}
use Rattle.header.specs.declared.reader.HeaderAnswer.{HeaderAnswer as Header}
use Rattle.exports.proofs.tables.fungal_header_place.Goals as goal

pub returns-in-Ok : goal.returns-in-Ok
returns-in-Ok c = ap (λ (h : Header). h.place) (c.in-Ok.ensures ∙ ap (read_header c.args.prefix.now c.args.size) c.admitted.ensures)

pub returns-in-Err : goal.returns-in-Err
unfolding refusal
returns-in-Err c = ap (λ (h : Header). h.place) (c.in-Err.ensures ∙ ap (read_header c.args.prefix.now c.args.size) c.admitted.ensures)
