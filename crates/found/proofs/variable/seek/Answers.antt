use mathlib.Core.Path.{sym, ◌∙◌}
use native.Mathlib.Omega.{arith}
use Rattle.sizes.proofs.Laws.When.{when-some, when-none}
use Rattle.found.proofs.Laws.Sought.{tables-parts, chunk_small, sought-tables, sought-none, sought-got}
use Rattle.found.proofs.variable.seek.Goals as goal

pub returns-in_default : goal.returns-in_default
returns-in_default c = sought-tables _ _ (when-none _ _ (sym c.tables_hold.ensures ∙ c.in_default.is))

pub returns-then-t-i : goal.returns-then-t-i
returns-then-t-i c = sought-none _ _ (when-some _ _ (sym c.tables_hold.ensures ∙ c.in-Some.is)).0 c.if-t-i.true

pub offset_bounds-t-i : goal.offset_bounds-t-i
offset_bounds-t-i c = let h = tables-parts _ (when-some _ _ (sym c.tables_hold.ensures ∙ c.in-Some.is)).0 in omega (arith, h.shape.vars)

pub bounds-t-i : goal.bounds-t-i
bounds-t-i c = let h = tables-parts _ (when-some _ _ (sym c.tables_hold.ensures ∙ c.in-Some.is)).0 in omega (arith, h.shape.vars)

pub described-requires : goal.described-requires
described-requires c =
    let w = when-some _ _ (sym c.tables_hold.ensures ∙ c.in-Some.is) in
    let h = tables-parts _ w.0 in
    let r = h.shape.rows _ c.if-t-i.false in
    (r.rank, r.low, r.high, chunk_small _ h _ c.if-t-i.false, w.1)

pub returns : goal.returns
returns c = sought-got _ _ (when-some _ _ (sym c.tables_hold.ensures ∙ c.in-Some.is)).0 c.if-t-i.false c.described.ensures
