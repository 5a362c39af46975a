use Rattle.grammar.proofs.Laws.Tables.{vars-none, vars-append, vars-count, length_more}
use Rattle.cdf.specs.Form.{form}
use Rattle.grammar.specs.Tree.{attrs_of}
use Rattle.grammar.specs.Vars.{var}
use Rattle.grammar.specs.Inner.Parts.{more_vars, vars}
use Rattle.cdf.proofs.Laws.Place.{took_none, took_more, took-stop, took_done}
use Rattle.cdf.proofs.Laws.Step.{into-got, into-stop, into-stopped, into-came}
use Rattle.std.proofs.Common.{[], ◌∷◌, ◌+◌, length, refl, arith, ap, ◌∙◌}
use Rattle.std.proofs.lemmas.Grind.{common_steps}
use Rattle.grammar.proofs.vars.parse_vars.Goals as goal

pub loop-init : goal.loop-init
loop-init c = ([], vars-none _, refl, c.requires.1, took_none)

pub parse_var-requires : goal.parse_var-requires
parse_var-requires c =
    let l = c.loop.invariant in
    let n = vars-count c.args.tables.now l.0 l.1 in
    (omega (arith, n.1, l.2, c.requires.0), l.3)

pub returns-in_err-at : goal.returns-in_err-at
unfolding vars
returns-in_err-at c =
    let l = c.loop.invariant in
    let n = vars-count c.args.tables.now l.0 l.1 in
    let e = rw n.0 at (into-stopped _ _ c.in_err-at.ensures.filled.0) in
    let f = into-stop (more_vars c.args.tables.now) (took-stop l.4 c.loop-test.true e) in
    grind (arith, common_steps, f)

pub loop-preserved : goal.loop-preserved
loop-preserved c =
    let l = c.loop.invariant in
    let n = vars-count c.args.tables.now l.0 l.1 in
    let e = c.in_ok-at.ensures in
    let x = into-came (λ v. more_vars c.loop.tables (v ∷ [])) (var (form c.args.version) c.loop.at.bytes.now c.loop.at.size (c.args.tables.now.nattrs + length (attrs_of l.0)) c.loop.at.at) (rw (← n.0) e.filled.0) in
    let f = x.1 in
    (_, x.2 ∙ ap (λ t. more_vars t (x.0 ∷ [])) l.1 ∙ vars-append _ _ _, omega (arith, length_more l.0 x.0, l.2), e.within, took_more l.4 c.loop-test.true f e.filled.1)

pub returns : goal.returns
unfolding vars
returns c = let l = c.loop.invariant in (into-got (more_vars c.args.tables.now) l.1 (took_done l.4 c.loop-test.false), l.4.same)
