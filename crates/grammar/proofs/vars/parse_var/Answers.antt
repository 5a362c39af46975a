use Rattle.grammar.proofs.Laws.Tables.{var-more}
use Rattle.grammar.specs.Tables.{padded}
use Rattle.grammar.specs.Tree.{VarItem}
use Rattle.grammar.specs.Attrs.{attr_list}
use Rattle.grammar.specs.Vars.{var}
use Rattle.grammar.specs.Inner.Parts.{attrs, dimids, more_attrs, more_rows}
use Rattle.cdf.specs.Step.{got, bind}
use Rattle.cdf.specs.Form.{form}
use Rattle.cdf.proofs.Laws.Word.{nelems-within}
use Rattle.cdf.proofs.Laws.ListStart.{start-within}
use Rattle.cdf.proofs.Laws.Step.{into-got, into-came, items-length}
use Rattle.std.proofs.Common.{◌≡◌, ◌+◌, ◌∙◌, length, zero-add, arith, ap}
use Rattle.std.proofs.lemmas.Grind.{common_steps}
use Rattle.grammar.proofs.vars.parse_var.Goals as goal

pub parse_dim_ids-requires : goal.parse_dim_ids-requires
parse_dim_ids-requires c = nelems-within 4 _ _ _ 8 c.in_ok-rank.ensures.0

pub parse_attrs-requires : goal.parse_attrs-requires
parse_attrs-requires c = omega (arith, c.requires.1, start-within 8 4 12 _ _ _ _ c.in_ok-attrs.ensures.0)

pub overflow_cast-rank : goal.overflow_cast-rank
overflow_cast-rank c = omega (arith, nelems-within 4 _ _ _ 8 c.in_ok-rank.ensures.0)

pub overflow_cast-attrs : goal.overflow_cast-attrs
overflow_cast-attrs c = omega (arith, start-within 8 4 12 _ _ _ _ c.in_ok-attrs.ensures.0)

pub push_var-requires : goal.push_var-requires
unfolding more_attrs
push_var-requires c = let x = into-came (more_attrs c.args.tables.now) _ c.in_ok-type_at.ensures.0 in omega (arith, c.requires.0, ap (λ t. t.nvars) x.2)

pub returns-clause-filled : goal.returns-clause-filled
unfolding attrs dimids attr_list var bind
returns-clause-filled c =
    let t = c.args.tables.now in
    let p = c.args.place in
    let x = into-came (more_attrs t) _ c.in_ok-type_at.ensures.0 in
    let y = into-came (padded 8 0) _ c.in_ok-ids.ensures.0 in
    let v : VarItem = record { name = p.at + 4; chars = c.in_ok-chars.chars; ids = y.0; attrs = x.0; code = c.code.result; vsize = c.in_ok-vsize.vsize; begin = c.in_ok-begin.begin } in
    let z : got v c.in_ok-begin.end.at ≡ var (form c.args.version) p.bytes.now p.size t.nattrs p.at = grind (arith, common_steps, x.1, y.1) in
    let m : length y.0 ≡ c.in_ok-rank.rank = items-length _ _ _ _ y.1 ∙ zero-add c.in_ok-rank.rank in
    let n : length x.0 ≡ c.in_ok-attrs.attrs = items-length _ _ _ _ x.1 ∙ zero-add c.in_ok-attrs.attrs in
    (into-got _ (c.push_var.ensures ∙ var-more t v x.2 y.2 m n) z, (grind (arith, common_steps), grind (arith, common_steps)))

pub returns-clause-within : goal.returns-clause-within
unfolding attrs more_attrs more_rows
returns-clause-within c =
    let x = into-came (more_attrs c.args.tables.now) _ c.in_ok-type_at.ensures.0 in
    let n = items-length _ _ _ _ x.1 in
    omega (arith, ap (λ t. t.nattrs) c.push_var.ensures, ap (λ t. t.nattrs) x.2, c.requires.1, start-within 8 4 12 _ _ _ _ c.in_ok-attrs.ensures.0)
