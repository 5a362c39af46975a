use mathlib.Core.Path.{refl, ap, ◌∙◌}
use Rattle.cdf.proofs.Laws.Refusals.{refused}
use Rattle.header.specs.Header.{read_header}
use Rattle.exports.proofs.Laws.Reader.{header_refused, header-full, header-told}
use Rattle.exports.proofs.tables.fungal_read_header.Goals as goal

pub returns-in-Err : goal.returns-in-Err
returns-in-Err c = rw c.number.ensures (header_refused _ _ c.args.versions _ _ _ (c.in-Err.ensures ∙ ap (read_header c.args.prefix.now c.args.size) c.admitted.ensures))

pub returns-in-Ok-store_tables : goal.returns-in-Ok-store_tables
returns-in-Ok-store_tables c = header-told _ _ c.args.versions _ _ (c.in-Ok.ensures ∙ ap (read_header c.args.prefix.now c.args.size) c.admitted.ensures) refl c.in-Ok-store_tables.ensures refl

pub returns-in-Err-store_tables : goal.returns-in-Err-store_tables
returns-in-Err-store_tables c =
    rw c.number-in-Err-store_tables.ensures
    (header-full _ _ c.args.versions _ _ (c.in-Ok.ensures ∙ ap (read_header c.args.prefix.now c.args.size) c.admitted.ensures) refl c.in-Err-store_tables.ensures (refused _))
