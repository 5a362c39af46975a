use Rattle.std.proofs.Common.{sym, ◌∙◌, arith}
use Rattle.sizes.proofs.Laws.Count.{records-some, records-none, count-fixed, count_word, count_none, count-opened}
use Rattle.sizes.proofs.count.given.Goals as goal

pub returns-then-not-has_unlimited : goal.returns-then-not-has_unlimited
returns-then-not-has_unlimited c = (λ x. count-fixed _ x (sym c.has_unlimited.ensures ∙ c.if-not-has_unlimited.true), λ e. cc)

pub returns-then-word-ne-INDETERMINATE : goal.returns-then-word-ne-INDETERMINATE
returns-then-word-ne-INDETERMINATE c = (λ x. count_word _ x (sym c.has_unlimited.ensures ∙ c.if-not-has_unlimited.false) c.if-word-ne-INDETERMINATE.true, λ e. cc)

pub returns-then-step-eq0 : goal.returns-then-step-eq0
returns-then-step-eq0 c =
    let t = c.args.t in
    (λ x. count_none _ x (sym c.has_unlimited.ensures ∙ c.if-not-has_unlimited.false) c.if-word-ne-INDETERMINATE.false (records-none _ t.shaped t.ids (sym c.requires ∙ c.if-step-eq0.true)), λ e. cc)

pub returns : goal.returns
returns c =
    let t = c.args.t in
    (λ x. count-opened _ x (sym c.has_unlimited.ensures ∙ c.if-not-has_unlimited.false) c.if-word-ne-INDETERMINATE.false (records-some _ t.shaped t.ids (omega (arith, c.requires))), λ e. omega arith)
