use Rattle.std.proofs.Common.{◌≡◌, ◌-◌, ◌+◌, ◌*◌, ◌∙◌, ap, get_or, drop, arith, ℕ}
use Rattle.std.proofs.lemmas.List.{get_or-drop, length-drop}
use Rattle.model.proofs.Laws.Rows.{row-at, rows-done}
use Rattle.grammar.specs.Tables.{no_dim}
use Rattle.sizes.specs.Records.{outer, length_at}
use Rattle.sizes.specs.Inner.Sizes.{capped}
use Rattle.sizes.proofs.Laws.Records.{lengths_none, lengths-more, lengths-all}
use Rattle.sizes.proofs.records.chunk_len.Goals as goal

pub loop-id-init : goal.loop-id-init
loop-id-init c = lengths_none c.args.dims.now c.args.v.now

pub loop-id-preserved : goal.loop-id-preserved
loop-id-preserved c =
    let ds = c.args.dims.now in
    let v = c.args.v.now in
    let o = c.outer-first.result in
    let i = c.loop-id.id-index in
    let id = row-at (v.rank - o) (drop o v.ids) i 0 c.loop-id-test.true ∙ get_or-drop o v.ids i 0 in
    let h : c.length_of.result ≡ length_at ds v (outer ds v + i) = c.length_of.ensures ∙ ap (λ (n : ℕ). (get_or ds n no_dim).length) id ∙ ap (λ (n : ℕ). length_at ds v (n + i)) c.outer-first.ensures.0 in
    lengths-more ds v i (λ x e. c.times-product.ensures x (c.loop-id.invariant ∙ e) ∙ ap (λ (n : ℕ). capped (x * n)) h)

pub returns : goal.returns
returns c =
    let v = c.args.v.now in
    let o = c.outer-first.result in
    let n = rows-done (v.rank - o) (drop o v.ids) c.loop-id.id-index (omega (arith, length-drop {A = ℕ})) c.loop-id-test.false in
    c.loop-id.invariant ∙ lengths-all c.args.dims.now v (omega arith)
