use mathlib.Core.Path.{◌∙◌}
use Rattle.crossing.proofs.Laws.Fits.{too_wide, narrow, by-ids, ids-out, ids-in}
use Rattle.crossing.specs.Words.{var_of, var_in_fields}
use Rattle.crossing.proofs.row.VarRow.take.Goals as goal

pub returns-in_err-ok : goal.returns-in_err-ok
unfolding var_of var_in_fields
returns-in_err-ok c = simp (too_wide _ _ _ c.try_from.ensures c.ok.ensures.value c.in_err-ok.was) c.from_residual.ensures

pub returns-in_err-ok-2 : goal.returns-in_err-ok-2
unfolding var_of var_in_fields
returns-in_err-ok-2 c =
    let a = narrow _ _ _ c.try_from.ensures c.ok.ensures.value c.in_ok-ok.was in
    simp (a.0, too_wide _ _ _ c.try_from-2.ensures c.ok-2.ensures.value c.in_err-ok-2.was) c.from_residual-in_err-ok-2.ensures

pub returns-in_err-ok-3 : goal.returns-in_err-ok-3
unfolding var_of var_in_fields
returns-in_err-ok-3 c =
    let a = narrow _ _ _ c.try_from.ensures c.ok.ensures.value c.in_ok-ok.was in
    let b = narrow _ _ _ c.try_from-2.ensures c.ok-2.ensures.value c.in_ok-ok-2.was in
    simp (a.0, b.0, too_wide _ _ _ c.try_from-3.ensures c.ok-3.ensures.value c.in_err-ok-3.was) c.from_residual-in_err-ok-3.ensures

pub returns-in_err-ok-4 : goal.returns-in_err-ok-4
unfolding var_of var_in_fields
returns-in_err-ok-4 c =
    let a = narrow _ _ _ c.try_from.ensures c.ok.ensures.value c.in_ok-ok.was in
    let b = narrow _ _ _ c.try_from-2.ensures c.ok-2.ensures.value c.in_ok-ok-2.was in
    let d = narrow _ _ _ c.try_from-3.ensures c.ok-3.ensures.value c.in_ok-ok-3.was in
    simp (a.0, b.0, d.0, too_wide _ _ _ c.try_from-4.ensures c.ok-4.ensures.value c.in_err-ok-4.was) c.from_residual-in_err-ok-4.ensures

pub returns-in_err-ok-5 : goal.returns-in_err-ok-5
unfolding var_of var_in_fields
returns-in_err-ok-5 c =
    let a = narrow _ _ _ c.try_from.ensures c.ok.ensures.value c.in_ok-ok.was in
    let b = narrow _ _ _ c.try_from-2.ensures c.ok-2.ensures.value c.in_ok-ok-2.was in
    let d = narrow _ _ _ c.try_from-3.ensures c.ok-3.ensures.value c.in_ok-ok-3.was in
    let e = narrow _ _ _ c.try_from-4.ensures c.ok-4.ensures.value c.in_ok-ok-4.was in
    simp (a.0, b.0, d.0, e.0, too_wide _ _ _ c.try_from-5.ensures c.ok-5.ensures.value c.in_err-ok-5.was) c.from_residual-in_err-ok-5.ensures

pub returns-in_err-take_ids : goal.returns-in_err-take_ids
returns-in_err-take_ids c =
    let a = narrow _ _ _ c.try_from.ensures c.ok.ensures.value c.in_ok-ok.was in
    let b = narrow _ _ _ c.try_from-2.ensures c.ok-2.ensures.value c.in_ok-ok-2.was in
    let d = narrow _ _ _ c.try_from-3.ensures c.ok-3.ensures.value c.in_ok-ok-3.was in
    let e = narrow _ _ _ c.try_from-4.ensures c.ok-4.ensures.value c.in_ok-ok-4.was in
    let f = narrow _ _ _ c.try_from-5.ensures c.ok-5.ensures.value c.in_ok-ok-5.was in
    simp (by-ids c.args.words.now a.0 b.0 d.0 e.0 f.0 ∙ ids-out c.args.words.now c.take_ids.ensures c.in_err-take_ids.was) c.from_residual-in_err-take_ids.ensures

pub returns : goal.returns
unfolding var_of
returns c =
    let a = narrow _ _ _ c.try_from.ensures c.ok.ensures.value c.in_ok-ok.was in
    let b = narrow _ _ _ c.try_from-2.ensures c.ok-2.ensures.value c.in_ok-ok-2.was in
    let d = narrow _ _ _ c.try_from-3.ensures c.ok-3.ensures.value c.in_ok-ok-3.was in
    let e = narrow _ _ _ c.try_from-4.ensures c.ok-4.ensures.value c.in_ok-ok-4.was in
    let f = narrow _ _ _ c.try_from-5.ensures c.ok-5.ensures.value c.in_ok-ok-5.was in
    let i = ids-in c.args.words.now c.take_ids.ensures c.in_ok-take_ids.was in
    simp (by-ids c.args.words.now a.0 b.0 d.0 e.0 f.0 ∙ i.0, a.1, b.1, d.1, e.1, f.1, i.1)
