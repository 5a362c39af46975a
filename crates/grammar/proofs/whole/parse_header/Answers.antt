use Rattle.grammar.proofs.Laws.Tables.{started-counts, dims-counts, globals-counts, lists-laid}
use Rattle.grammar.proofs.Laws.Within.{attr_list-within}
use Rattle.grammar.specs.Grammar.{header}
use Rattle.grammar.specs.Tables.{laid}
use Rattle.grammar.specs.Tree.{tree}
use Rattle.grammar.specs.Inner.Parts.{more_dims, more_globals, more_vars}
use Rattle.cdf.specs.Step.{got, stop, bind}
use Rattle.cdf.specs.Refusals.{number}
use Rattle.cdf.proofs.Laws.Step.{into-got, into-stop, into-came, into-stopped}
use Rattle.std.proofs.Common.{◌≡◌, arith}
use Rattle.std.proofs.lemmas.Grind.{common_steps}
use Rattle.grammar.proofs.whole.parse_header.Goals as goal

pub parse_dims_list-requires : goal.parse_dims_list-requires
parse_dims_list-requires c = started-counts _ _ _ c.started-tables.ensures

pub parse_global_attrs_list-requires : goal.parse_global_attrs_list-requires
parse_global_attrs_list-requires c =
    let d = into-came (more_dims c.started-tables.result) _ c.in_ok-globals_at.ensures.0 in
    dims-counts _ _ _ c.started-tables.ensures d.0 d.2

pub parse_vars_list-requires : goal.parse_vars_list-requires
parse_vars_list-requires c =
    let d = into-came (more_dims c.started-tables.result) _ c.in_ok-globals_at.ensures.0 in
    let g = into-came (more_globals c.parse_dims_list.new.tables) _ c.in_ok-vars_at.ensures.0 in
    let n = globals-counts _ _ _ c.started-tables.ensures d.0 d.2 g.0 g.2 in
    (n.1, omega (arith, n.0, attr_list-within _ _ _ _ _ g.1))

pub returns-in_err-end : goal.returns-in_err-end
unfolding header bind
returns-in_err-end c =
    let d = into-came (more_dims c.started-tables.result) _ c.in_ok-globals_at.ensures.0 in
    let g = into-came (more_globals c.parse_dims_list.new.tables) _ c.in_ok-vars_at.ensures.0 in
    let n = globals-counts _ _ _ c.started-tables.ensures d.0 d.2 g.0 g.2 in
    let e = into-stopped (more_vars c.parse_global_attrs_list.new.tables) _ c.in_err-end.ensures.0 in
    let z : stop (number c.in_err-end.field-0.0.why) c.in_err-end.field-0.0.place ≡ header c.args.admitted c.args.prefix.now c.args.size = grind (arith, common_steps, d.1, g.1, n.0, e) in
    grind (arith, common_steps, into-stop laid z)

pub returns : goal.returns
unfolding header bind
returns c =
    let d = into-came (more_dims c.started-tables.result) _ c.in_ok-globals_at.ensures.0 in
    let g = into-came (more_globals c.parse_dims_list.new.tables) _ c.in_ok-vars_at.ensures.0 in
    let n = globals-counts _ _ _ c.started-tables.ensures d.0 d.2 g.0 g.2 in
    let v = into-came (more_vars c.parse_global_attrs_list.new.tables) _ c.in_ok-end.ensures.0 in
    let z : got (tree c.in_ok-version.version c.in_ok-word.word c.args.size d.0 g.0 v.0) c.in_ok-end.end.at ≡ header c.args.admitted c.args.prefix.now c.args.size = grind (arith, common_steps, d.1, g.1, v.1, n.0) in
    into-got laid (lists-laid _ _ _ d.0 g.0 v.0 c.started-tables.ensures d.2 g.2 v.2) z
