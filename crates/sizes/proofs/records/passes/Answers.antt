use Rattle.sizes.proofs.Laws.Products.{passes_none, passes-by}
use native.Mathlib.Omega.{arith}
use Rattle.sizes.proofs.records.passes.Goals as goal

pub returns-then-step-eq0 : goal.returns-then-step-eq0
returns-then-step-eq0 c = passes_none _ _ _ c.if-step-eq0.true

pub returns : goal.returns
returns c = passes-by c.args.room c.args.steps c.args.step (omega arith)
