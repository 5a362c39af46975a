use Rattle.grammar.proofs.Laws.Tables.{attrs-none, attrs-append, length_more}
use Rattle.grammar.specs.Inner.Parts.{more_attrs, attrs}
use Rattle.cdf.proofs.Laws.Place.{took_none, took_more, took-stop, took_done}
use Rattle.cdf.proofs.Laws.Step.{into-got, into-stop}
use Rattle.std.proofs.Common.{[], ◌∷◌, refl, arith, ap, ◌∙◌}
use Rattle.std.proofs.lemmas.Grind.{common_steps}
use Rattle.grammar.proofs.attrs.parse_attrs.Goals as goal

pub loop-init : goal.loop-init
loop-init c = ([], attrs-none _, refl, took_none)

pub returns-in_err-attr : goal.returns-in_err-attr
unfolding attrs
returns-in_err-attr c =
    let l = c.loop.invariant in
    let e = into-stop (more_attrs c.args.tables.now) (took-stop l.3 c.loop-test.true c.in_err-attr.ensures.0) in
    grind (arith, common_steps, e)

pub push_attr-requires : goal.push_attr-requires
unfolding more_attrs
push_attr-requires c = let l = c.loop.invariant in omega (arith, l.2, ap (λ t. t.nattrs) l.1)

pub loop-preserved : goal.loop-preserved
loop-preserved c =
    let l = c.loop.invariant in
    let e = c.in_ok-attr.ensures in
    (_, c.push_attr.ensures ∙ ap (λ t. more_attrs t (c.in_ok-attr.attr ∷ [])) l.1 ∙ attrs-append _ _ _, omega (arith, length_more l.0 c.in_ok-attr.attr, l.2), took_more l.3 c.loop-test.true e.0 e.1)

pub returns : goal.returns
unfolding attrs
returns c = let l = c.loop.invariant in (into-got (more_attrs c.args.tables.now) l.1 (took_done l.3 c.loop-test.false), l.3.same)
