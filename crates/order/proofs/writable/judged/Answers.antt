use Rattle.order.proofs.Laws.Rows.{full-rows}
use Rattle.order.proofs.writable.judged.Goals as goal

pub judged_in_place-requires : goal.judged_in_place-requires
judged_in_place-requires c = full-rows c.args.t _ c.well_formed.1.0
