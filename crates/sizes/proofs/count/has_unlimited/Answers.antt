use Rattle.sizes.proofs.Laws.Count.{has_unlimited-by}
use Rattle.sizes.proofs.count.has_unlimited.Goals as goal

pub returns : goal.returns
returns c = has_unlimited-by c.args.t.tables.now c.unlimited.ensures
