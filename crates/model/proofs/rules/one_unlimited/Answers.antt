use Rattle.std.proofs.Common.{ap, ◌∙◌, leb, eqb, ℕ}
use Rattle.std.specs.List.{count_by}
use Rattle.std.proofs.lemmas.List.{take_all}
use Rattle.grammar.specs.declared.tables.Dim.{Dim}
use Rattle.model.proofs.Laws.Model.{one_unlimited-by}
use Rattle.model.proofs.rules.one_unlimited.Goals as goal

pub returns : goal.returns
returns c =
    let ds = c.dims-d-items in
    ap (λ (n : ℕ). leb n 1) (c.loop-d.invariant ∙ ap (count_by (λ (d : Dim). eqb d.length 0)) (take_all _ ds.result.now c.loop-d-test.false))
    ∙ one_unlimited-by c.args.t.now ds.ensures.rows ds.ensures.number
