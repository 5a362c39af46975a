use mathlib.Core.Path.{refl}
use Rattle.crossing.proofs.Laws.Loading.{loading-none, loading-more, loading-stop, loading-all, unfit-row, fit-row}
use Rattle.crossing.proofs.row.load_rows.Goals as goal

pub loop-i-init : goal.loop-i-init
loop-i-init g c = loading-none _ _ _ refl

pub returns-in_err-rows : goal.returns-in_err-rows
returns-in_err-rows g c =
    simp c.from_residual.ensures (loading-stop _ _ c.loop-i.invariant c.loop-i-test.true (unfit-row g.R.Row.in_fields g.R.Row.said _ g.met.R.Row.inner c.args.words.now _ c.WORDS.ensures c.WORDS-in-loop-i.ensures c.take.ensures c.in_err-rows.was))

pub loop-i-preserved : goal.loop-i-preserved
loop-i-preserved g c =
    let f = fit-row g.R.Row.in_fields g.R.Row.said _ g.met.R.Row.inner c.args.words.now _ c.WORDS.ensures c.WORDS-in-loop-i.ensures c.take.ensures c.in_ok-rows.was in
    loading-more _ _ c.loop-i.invariant c.loop-i-test.true f.0 f.1

pub returns : goal.returns
returns g c = loading-all _ _ c.loop-i.invariant c.loop-i-test.false
