use mathlib.Core.Path.{sym, ap, ◌∙◌}
use borrow.Author.Tests.{ne_eqb}
use Rattle.sizes.specs.Records.{ends_hold}
use Rattle.sizes.proofs.Laws.When.{when-some, when-none}
use Rattle.sizes.proofs.Laws.Count.{ends_by}
use Rattle.order.proofs.Laws.Totals.{sizes-broken, sizes-refused, sizes-other, sizes-same}
use Rattle.order.proofs.totals.sizes_hold.Goals as goal

pub returns-in_default : goal.returns-in_default
returns-in_default c = sizes-broken _ (when-none _ _ (sym c.measure.ensures ∙ c.in_default.is))

pub returns-in-Err : goal.returns-in-Err
returns-in-Err c = sizes-refused _ (when-some _ _ (sym c.measure.ensures ∙ c.in-Some.is)).0 c.in-Err.ensures

pub returns-then-n-t : goal.returns-then-n-t
returns-then-n-t c =
    let t = c.args.t.tables.now in
    let z = when-some _ _ (sym c.measure.ensures ∙ c.in-Some.is) in
    sizes-same t z.0 c.in-Ok.ensures c.if-n-t.true (ends_by t c.in-Ok.n z.0 z.1 c.ends_hold.ensures ∙ ap (ends_hold t) c.if-n-t.true)

pub returns-else-n-t : goal.returns-else-n-t
returns-else-n-t c =
    let t = c.args.t.tables.now in
    let z = when-some _ _ (sym c.measure.ensures ∙ c.in-Some.is) in
    ne_eqb c.in-Ok.n t.count c.if-n-t.false ∙ sizes-other t z.0 c.in-Ok.ensures c.if-n-t.false
