use Rattle.std.proofs.Common.{◌≤◌, arith, sym, subst, ◌∙◌}
use borrow.Author.Count.{below_none, below_more}
use Rattle.grammar.specs.Tables.{no_var, var_at}
use Rattle.model.proofs.Laws.Rows.{row-of}
use Rattle.sizes.specs.declared.records.Sizes.{Sizes}
use Rattle.sizes.specs.Records.{chunk, max_chunk}
use Rattle.sizes.proofs.Laws.Records.{padded-is, sizes-all}
use Rattle.sizes.proofs.Laws.Count.{upto-none, upto_all, upto_turn, upto-broken}
use Rattle.sizes.proofs.Laws.When.{some-when, none-when}
use Rattle.sizes.proofs.records.measure.Goals as goal

pub loop-v-init : goal.loop-v-init
loop-v-init c = record { placed = below_none _; upto = upto-none c.args.t.now; bound = omega arith }

pub returns-in_err-z : goal.returns-in_err-z
returns-in_err-z c =
    let t = c.args.t.now in
    let l = c.loop-v-test.true in
    let at = row-of t.nvars t.vars _ no_var c.vars-v-items.ensures.rows c.vars-v-items.ensures.number l in
    let v = var_at t c.loop-v.v-index in
    let alike = (rw at at c.padded_bytes-padded.ensures) (chunk t.dims v) (rw at at c.chunk_len.ensures) ∙ padded-is t.dims v in
    c.from_residual.ensures
    ∙ none-when _ _ (sym (upto-broken t _ _ (omega (arith, c.vars-v-items.ensures.number)) c.loop-v.invariant.upto (rw at at c.is_record.ensures) alike (rw at at c.added.ensures) c.in_err-z.was))

pub loop-v-preserved : goal.loop-v-preserved
loop-v-preserved c =
    let t = c.args.t.now in
    let l = c.loop-v-test.true in
    let at = row-of t.nvars t.vars _ no_var c.vars-v-items.ensures.rows c.vars-v-items.ensures.number l in
    let v = var_at t c.loop-v.v-index in
    let alike = (rw at at c.padded_bytes-padded.ensures) (chunk t.dims v) (rw at at c.chunk_len.ensures) ∙ padded-is t.dims v in
    let more = upto_turn t _ _ (omega (arith, c.vars-v-items.ensures.number)) c.loop-v.invariant.upto (rw at at c.is_record.ensures) alike (rw at at c.added.ensures) c.in_ok-z.was in
    record { placed = below_more _ _ c.loop-v.invariant.placed more.0; upto = more.1; bound = more.2 }

pub returns : goal.returns
returns c =
    let t = c.args.t.now in
    let l = c.loop-v.invariant in
    let e = l.upto ∙ upto_all t (omega (arith, c.vars-v-items.ensures.number)) in
    some-when _ _ (sym (sizes-all t (λ k h. l.placed k (omega (arith, c.vars-v-items.ensures.number))) (subst (λ (z : Sizes). z.step ≤ max_chunk) e l.bound))) e
