use Rattle.sizes.proofs.Laws.Products.{times_zero, times-over, times-in, times-fits, times-small, times-short}
use native.Mathlib.Omega.{arith}
use Rattle.sizes.proofs.records.times.Goals as goal

pub overflow_mul-result : goal.overflow_mul-result
overflow_mul-result c = omega (arith, times-short c.args.a c.args.b c.if-a-lt268435456.true c.if-b-lt4294967296.true)

pub returns-then-b-lt4294967296 : goal.returns-then-b-lt4294967296
returns-then-b-lt4294967296 c = λ x e. times-in _ x e (omega arith) (times-short _ _ c.if-a-lt268435456.true c.if-b-lt4294967296.true)

pub returns-then-b-eq0 : goal.returns-then-b-eq0
returns-then-b-eq0 c = λ x e. times_zero _ x e c.if-b-eq0.true

pub returns-then-b-a : goal.returns-then-b-a
returns-then-b-a c = λ x e. times-over _ x e (omega arith) c.if-b-a.true

pub overflow_mul-result-2 : goal.overflow_mul-result-2
overflow_mul-result-2 c = omega (arith, times-fits c.args.a c.args.b (omega arith) c.if-b-a.false)

pub returns : goal.returns
returns c = λ x e. times-in _ x e (times-small _ _ c.if-b-a.false) (times-fits _ _ (omega arith) c.if-b-a.false)
