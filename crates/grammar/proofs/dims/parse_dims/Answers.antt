use Rattle.grammar.proofs.Laws.Tables.{dims-none, dims-append, length_more}
use Rattle.grammar.specs.Inner.Parts.{more_dims, dims}
use Rattle.cdf.proofs.Laws.Place.{took_none, took_more, took-stop, took_done}
use Rattle.cdf.proofs.Laws.Step.{into-got, into-stop}
use Rattle.std.proofs.Common.{[], ◌∷◌, refl, arith, ap, ◌∙◌}
use Rattle.std.proofs.lemmas.Grind.{common_steps}
use Rattle.grammar.proofs.dims.parse_dims.Goals as goal

pub loop-init : goal.loop-init
loop-init c = ([], dims-none _, refl, took_none)

pub returns-in_err-dim : goal.returns-in_err-dim
unfolding dims
returns-in_err-dim c =
    let l = c.loop.invariant in
    let e = into-stop (more_dims c.args.tables.now) (took-stop l.3 c.loop-test.true c.in_err-dim.ensures.0) in
    grind (arith, common_steps, e)

pub push_dim-requires : goal.push_dim-requires
unfolding more_dims
push_dim-requires c = let l = c.loop.invariant in omega (arith, l.2, ap (λ t. t.ndims) l.1)

pub loop-preserved : goal.loop-preserved
loop-preserved c =
    let l = c.loop.invariant in
    let e = c.in_ok-dim.ensures in
    (_, c.push_dim.ensures ∙ ap (λ t. more_dims t (c.in_ok-dim.dim ∷ [])) l.1 ∙ dims-append _ _ _, omega (arith, length_more l.0 c.in_ok-dim.dim, l.2), took_more l.3 c.loop-test.true e.0 e.1)

pub returns : goal.returns
unfolding dims
returns c = let l = c.loop.invariant in (into-got (more_dims c.args.tables.now) l.1 (took_done l.3 c.loop-test.false), l.3.same)
