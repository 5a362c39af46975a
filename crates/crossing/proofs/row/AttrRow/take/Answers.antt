use Rattle.crossing.proofs.Laws.Fits.{too_wide, narrow}
use Rattle.crossing.specs.Words.{attr_of, attr_in_fields}
use Rattle.crossing.proofs.row.AttrRow.take.Goals as goal

pub returns-in_err-ok : goal.returns-in_err-ok
unfolding attr_of attr_in_fields
returns-in_err-ok c = simp (too_wide _ _ _ c.try_from.ensures c.ok.ensures.value c.in_err-ok.was) c.from_residual.ensures

pub returns-in_err-ok-2 : goal.returns-in_err-ok-2
unfolding attr_of attr_in_fields
returns-in_err-ok-2 c =
    let a = narrow _ _ _ c.try_from.ensures c.ok.ensures.value c.in_ok-ok.was in
    simp (a.0, too_wide _ _ _ c.try_from-2.ensures c.ok-2.ensures.value c.in_err-ok-2.was) c.from_residual-in_err-ok-2.ensures

pub returns-in_err-ok-3 : goal.returns-in_err-ok-3
unfolding attr_of attr_in_fields
returns-in_err-ok-3 c =
    let a = narrow _ _ _ c.try_from.ensures c.ok.ensures.value c.in_ok-ok.was in
    let b = narrow _ _ _ c.try_from-2.ensures c.ok-2.ensures.value c.in_ok-ok-2.was in
    simp (a.0, b.0, too_wide _ _ _ c.try_from-3.ensures c.ok-3.ensures.value c.in_err-ok-3.was) c.from_residual-in_err-ok-3.ensures

pub returns : goal.returns
unfolding attr_of attr_in_fields
returns c =
    let a = narrow _ _ _ c.try_from.ensures c.ok.ensures.value c.in_ok-ok.was in
    let b = narrow _ _ _ c.try_from-2.ensures c.ok-2.ensures.value c.in_ok-ok-2.was in
    let d = narrow _ _ _ c.try_from-3.ensures c.ok-3.ensures.value c.in_ok-ok-3.was in
    simp (a.0, b.0, d.0, a.1, b.1, d.1)
