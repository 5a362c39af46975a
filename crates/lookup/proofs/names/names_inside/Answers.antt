use Rattle.std.proofs.Common.{◌+◌, length, leb, sym, ap, ◌∙◌, arith}
use Rattle.std.proofs.lemmas.List.Folds.{list_all_at}
use Rattle.std.proofs.lemmas.List.{take_all}
use Rattle.std.specs.List.{list_all}
use Rattle.grammar.specs.Tables.{no_var}
use Rattle.model.proofs.Laws.Rows.{all-of}
use Rattle.lookup.proofs.Laws.Lookup.{inside-is}
use Rattle.lookup.proofs.names.names_inside.Goals as goal

pub returns-then-not-is_inside : goal.returns-then-not-is_inside
returns-then-not-is_inside c =
    let s = c.args.s.now in
    let t = c.args.t.now in
    let v = c.vars-v-items in
    sym (list_all_at (λ v. leb (v.name + v.chars) (length s)) _ _ no_var c.loop-v-test.true (sym c.is_inside.ensures ∙ c.if-not-is_inside.true))
    ∙ all-of (λ v. leb (v.name + v.chars) (length s)) t.vars no_var t.nvars v.ensures.rows v.ensures.number
    ∙ inside-is s t (omega arith)

pub returns : goal.returns
returns c =
    let s = c.args.s.now in
    let t = c.args.t.now in
    let v = c.vars-v-items in
    sym c.loop-v.invariant
    ∙ ap (list_all (λ v. leb (v.name + v.chars) (length s))) (take_all _ _ c.loop-v-test.false)
    ∙ all-of (λ v. leb (v.name + v.chars) (length s)) t.vars no_var t.nvars v.ensures.rows v.ensures.number
    ∙ inside-is s t (omega arith)
