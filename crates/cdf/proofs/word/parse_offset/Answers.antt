use Rattle.cdf.proofs.Laws.Word.{signed-8, signed-got}
use Rattle.bigendian.proofs.Laws.Number.{extended-low, extended-high}
use borrow.Author.Tests.{eq-eqb, ne_eqb}
use mathlib.Core.Path.{◌∙◌}
use Rattle.cdf.proofs.word.parse_offset.Goals as goal

pub returns-then-version-ne1 : goal.returns-then-version-ne1
returns-then-version-ne1 c = let e = c.eight_bytes.ensures in rw (ne_eqb c.args.version 1 c.if-version-ne1.true) (e.0 ∙ signed-8 _ _ _, e.1)

pub returns-then-v-lt-FIRST_NEGATIVE : goal.returns-then-v-lt-FIRST_NEGATIVE
returns-then-v-lt-FIRST_NEGATIVE c = let e = c.in_ok-v.ensures in rw (eq-eqb c.args.version 1 c.if-version-ne1.false) (signed-got _ _ _ _ e.0 (extended-low 4 _ c.if-v-lt-FIRST_NEGATIVE.true), e.1)

pub returns-else-v-lt-FIRST_NEGATIVE : goal.returns-else-v-lt-FIRST_NEGATIVE
returns-else-v-lt-FIRST_NEGATIVE c = let e = c.in_ok-v.ensures in rw (eq-eqb c.args.version 1 c.if-version-ne1.false) (signed-got _ _ _ _ e.0 (extended-high 4 _ c.if-v-lt-FIRST_NEGATIVE.false), e.1)
