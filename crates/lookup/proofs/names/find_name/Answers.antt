use Rattle.std.proofs.Common.{◌∙◌, sym, arith}
use Rattle.lookup.proofs.Laws.Lookup.{few}
use Rattle.lookup.proofs.names.find_name.Goals as goal

pub offset_bounds-t-i : goal.offset_bounds-t-i
offset_bounds-t-i c = omega (arith, few _ _ (sym c.names_inside.ensures ∙ c.if-not-names_inside.false))

pub bounds-t-i : goal.bounds-t-i
bounds-t-i c = omega (arith, few _ _ (sym c.names_inside.ensures ∙ c.if-not-names_inside.false))
