use Rattle.items.proofs.Laws.Utf8.{text-starts, text-more, text-bad, text-ends}
use Rattle.std.proofs.Common.{sym, ◌∙◌}
use Rattle.items.proofs.utf8.is_utf8.Goals as goal

pub loop-b-init : goal.loop-b-init
loop-b-init c = text-starts _

pub returns-in-None : goal.returns-in-None
returns-in-None c = sym (c.loop-b.invariant ∙ text-bad _ _ _ c.loop-b-test.true (sym c.in-None.is ∙ c.after.ensures))

pub loop-b-preserved : goal.loop-b-preserved
loop-b-preserved c = c.loop-b.invariant ∙ text-more _ _ _ c.loop-b-test.true (sym c.in-Some.is ∙ c.after.ensures)

pub returns : goal.returns
returns c = sym (c.loop-b.invariant ∙ text-ends _ _ _ c.loop-b-test.false)
