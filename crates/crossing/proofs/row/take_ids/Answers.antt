use mathlib.Core.Path.{refl}
use native.Mathlib.Omega.{arith}
use borrow.Author.Tests.{le-ltb, ltb-false}
use Rattle.crossing.specs.Inner.Taken.{ids_fit}
use Rattle.crossing.proofs.Laws.Fits.{too_wide, narrow}
use Rattle.crossing.proofs.Laws.Loading.{loading-none, loading-more, loading-stop, loading-all}
use Rattle.crossing.proofs.row.take_ids.Goals as goal

pub loop-k-init : goal.loop-k-init
loop-k-init c = loading-none _ _ _ refl

pub returns-in_err-ids : goal.returns-in_err-ids
unfolding ids_fit
returns-in_err-ids c =
    let wide = ltb-false _ _ (too_wide _ _ _ c.try_from.ensures c.ok.ensures.value c.in_err-ids.was) in
    simp (loading-stop _ _ c.loop-k.invariant c.loop-k-test.true (le-ltb _ _ (omega arith))) c.from_residual.ensures

pub loop-k-preserved : goal.loop-k-preserved
loop-k-preserved c =
    let a = narrow _ _ _ c.try_from.ensures c.ok.ensures.value c.in_ok-ids.was in
    loading-more _ _ c.loop-k.invariant c.loop-k-test.true a.0 a.1

pub returns : goal.returns
unfolding ids_fit
returns c = let a = loading-all _ _ c.loop-k.invariant c.loop-k-test.false in simp (a.0, a.1)
