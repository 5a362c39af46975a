use Rattle.crossing.proofs.Laws.Loads.{loads}
use Rattle.crossing.proofs.load.load_tables.Goals as goal

pub returns : goal.returns
returns c = loads _ c.taken.ensures c.ok_or.ensures.value
