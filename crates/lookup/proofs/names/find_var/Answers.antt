use Rattle.std.proofs.Common.{◌∙◌, sym, arith}
use borrow.Author.Count.{below_more}
use Rattle.lookup.proofs.Laws.Lookup.{few, name_in, found, not_found}
use Rattle.lookup.proofs.names.find_var.Goals as goal

pub bounds-t-i : goal.bounds-t-i
bounds-t-i c = let h = few _ _ (sym c.names_inside.ensures ∙ c.if-not-names_inside.false) in omega arith

pub is_named-requires : goal.is_named-requires
is_named-requires c = name_in _ c.args.t.now (sym c.names_inside.ensures ∙ c.if-not-names_inside.false) c.loop-i.i c.loop-i-test.true

pub returns-then-is_named : goal.returns-then-is_named
returns-then-is_named c =
    found _ c.args.t.now (sym c.names_inside.ensures ∙ c.if-not-names_inside.false) _ c.loop-i.i c.loop-i-test.true c.loop-i.invariant (sym c.is_named.ensures ∙ c.if-is_named.true)

pub loop-i-preserved : goal.loop-i-preserved
loop-i-preserved c = below_more _ _ c.loop-i.invariant (sym c.is_named.ensures ∙ c.if-is_named.false)

pub returns : goal.returns
returns c = not_found _ _ (sym c.names_inside.ensures ∙ c.if-not-names_inside.false) _ (λ k l. c.loop-i.invariant k (omega arith))
