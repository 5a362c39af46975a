use Prim.Native.Nat.{◌≤◌}
use native.Mathlib.Omega.{arith}
use lib.ListN.{length}
use borrow.Author.Rules.{rules}
use Rattle.crossing.specs.Words.{head_words}
use Rattle.crossing.proofs.Laws.Stored.{tables-stored, too_short, all-stored}
use Rattle.crossing.proofs.store.store_tables.Goals as goal

pub returns-then-out-lt-WORDS : goal.returns-then-out-lt-WORDS
returns-then-out-lt-WORDS c = too_short _ _ c.if-out-lt-WORDS.true

pub returns : goal.returns
unfolding head_words
returns c =
    let a = c.args in
    let h : 1768 ≤ length a.out.now = omega arith in
    all-stored _ _ h (tables-stored a.t.now a.out.now h c.store_rows.ensures (search rules) c.store_rows-2.ensures (search rules) c.store_rows-3.ensures (search rules))
