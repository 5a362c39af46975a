use native.Mathlib.Omega.{arith}
use borrow.Author.Count.{below_more}
use mathlib.Core.Path.{refl}
use Rattle.guest32.proofs.Laws.Guest.{capped-short, capped-whole, cut-first, cut-none}
use Rattle.guest32.proofs.guest.first_cut.Goals as goal

pub returns-then-chunk_len-ge-WORD : goal.returns-then-chunk_len-ge-WORD
returns-then-chunk_len-ge-WORD c =
    cut-first c.args.t.tables.now c.loop-i-test.true c.loop-i.invariant (capped-short _ _ c.chunk_len.ensures c.if-chunk_len-ge-WORD.true)

pub loop-i-preserved : goal.loop-i-preserved
loop-i-preserved c = below_more _ _ c.loop-i.invariant (capped-whole _ _ c.chunk_len.ensures c.if-chunk_len-ge-WORD.false)

pub returns : goal.returns
returns c = cut-none c.args.t.tables.now refl (λ k l. c.loop-i.invariant k (omega arith))
