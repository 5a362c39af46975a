use mathlib.Core.Path.{sym, ap, ◌∙◌}
use Rattle.grammar.proofs.Laws.Within.{within-shaped}
use Rattle.model.proofs.Laws.Model.{model-has-ids}
use Rattle.sizes.proofs.Laws.When.{when-some, when-none}
use Rattle.sizes.proofs.Laws.Count.{ends_by}
use Rattle.header.specs.Inner.Answers.{counted}
use Rattle.header.proofs.Laws.Header.{passed, judged-model, judged-sizes, judged-count, judged-ends, judged-got}
use Rattle.header.proofs.reader.judged.Goals as goal

pub returns-then-not-model_holds : goal.returns-then-not-model_holds
returns-then-not-model_holds c end = judged-model _ _ _ (sym c.model_holds.ensures ∙ c.if-not-model_holds.true)

pub measure-requires : goal.measure-requires
measure-requires c = within-shaped c.requires

pub returns-in_default : goal.returns-in_default
returns-in_default c end = judged-sizes _ _ _ (sym c.model_holds.ensures ∙ c.if-not-model_holds.false) (when-none _ _ (sym c.measure.ensures ∙ c.in_default.is))

pub invariant_of-record_count : goal.invariant_of-record_count
invariant_of-record_count c = record { shaped = within-shaped c.requires; ids = model-has-ids _ _ (sym c.model_holds.ensures ∙ c.if-not-model_holds.false) }

pub record_count-requires : goal.record_count-requires
record_count-requires c = (when-some _ _ (sym c.measure.ensures ∙ c.in-Some.is)).1

pub returns-in_err-count : goal.returns-in_err-count
returns-in_err-count c end =
    ap (counted c.args.t.now end) (passed c.from_residual.result c.from_residual.ensures.1)
    ∙ judged-count _ _ _ (sym c.model_holds.ensures ∙ c.if-not-model_holds.false) (when-some _ _ (sym c.measure.ensures ∙ c.in-Some.is)).0 c.in_err-count.ensures

pub returns-then-not-ends_hold : goal.returns-then-not-ends_hold
returns-then-not-ends_hold c end =
    let w = when-some _ _ (sym c.measure.ensures ∙ c.in-Some.is) in
    judged-ends _ _ _ (sym c.model_holds.ensures ∙ c.if-not-model_holds.false) w.0 c.in_ok-count.ensures (sym (ends_by _ _ w.0 w.1 c.ends_hold.ensures) ∙ c.if-not-ends_hold.true)

pub returns : goal.returns
returns c end =
    let w = when-some _ _ (sym c.measure.ensures ∙ c.in-Some.is) in
    judged-got _ _ _ (sym c.model_holds.ensures ∙ c.if-not-model_holds.false) w.0 c.in_ok-count.ensures (sym (ends_by _ _ w.0 w.1 c.ends_hold.ensures) ∙ c.if-not-ends_hold.false)
