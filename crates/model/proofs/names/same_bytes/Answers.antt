use Rattle.std.proofs.Common.{rules, eqb, get_or, ◌+◌, ◌∙◌, arith}
use borrow.Author.Tests.{tests}
use Rattle.std.proofs.lemmas.Iterator.{YieldsList-from_range}
use Rattle.std.proofs.lemmas.Iterator.Search.{all_from_yields_List}
use Rattle.model.proofs.Laws.Rows.{all-range}
use Rattle.model.proofs.Laws.Names.{same-parts}
use Rattle.items.specs.Name.{same_bytes}
use Rattle.model.proofs.names.same_bytes.Goals as goal

pub returns-then-n-len-2 : goal.returns-then-n-len-2
returns-then-n-len-2 c = let a = c.args in c.eq.ensures ∙ same-parts a.s.now a.a a.b a.n (omega arith) (omega arith) (omega arith) (omega arith)

pub returns : goal.returns
unfolding same_bytes
returns c =
    let s = c.args.s.now in
    let a = c.args.a in
    let b = c.args.b in
    all_from_yields_List (λ i. eqb (get_or s (a + i) 0) (get_or s (b + i) 0)) _ _ _ c.all.ensures.ran (YieldsList-from_range 0 c.args.n c.args.n (cc) (omega arith)) (λ x r q k. search (rules, tests))
    ∙ all-range _ _
