-- How many words a row takes, and rows in a part of the words: what the code's trait of rows asks of each kind.
use Rattle.std.specs.Prelude.{ℕ, ◌+◌, ◌≤◌, ◌<◌, ◌≡◌, List, length, drop, refl}
use Rattle.std.proofs.Common.{◌∙◌, ap, arith}
use lib.Seq.{get_or-take, get_or-drop}
use Rattle.bigendian.specs.Lists.{tab}
use Rattle.grammar.specs.declared.tables.Dim.{Dim}
use Rattle.grammar.specs.declared.tables.Attr.{Attr}
use Rattle.grammar.specs.declared.tables.Var.{Var}
use Rattle.bigendian.proofs.Laws.Lists.{tab-ext}
use Rattle.crossing.specs.Words.{dim_words, attr_words, var_words, word_at, dim_of, attr_of, var_of}
use Rattle.crossing.specs.Inner.Taken.{part}

pub wide-dim : (d : Dim) → length (dim_words d) ≡ 3
unfolding dim_words
wide-dim d = refl

pub wide-attr : (a : Attr) → length (attr_words a) ≡ 5
unfolding attr_words
wide-attr a = refl

pub wide-var : (v : Var) → length (var_words v) ≡ 16
unfolding var_words tab
wide-var v = refl

-- a row in a part of the words is that of the words themselves
module _ (s : List ℕ) (at n : ℕ) where
  pub word-inner : (i k : ℕ) → i < n → at + i ≡ k → word_at (part s at n) i ≡ word_at s k
  word-inner i k h e = get_or-take n (drop at s) i 0 h ∙ get_or-drop at s i 0 ∙ ap (word_at s) e

  pub dim-inner : (i : ℕ) → i + 3 ≤ n → dim_of (part s at n) i ≡ dim_of s (at + i)
  unfolding dim_of
  dim-inner i h =
      let f : (k : ℕ) → k < 3 → word_at (part s at n) (i + k) ≡ word_at s (at + i + k) = λ k l. word-inner (i + k) (at + i + k) (omega arith) (omega arith) in
      λ j. record { name = word-inner i (at + i) (omega arith) refl j; chars = f 1 (omega arith) j; length = f 2 (omega arith) j }

  pub attr-inner : (i : ℕ) → i + 5 ≤ n → attr_of (part s at n) i ≡ attr_of s (at + i)
  unfolding attr_of
  attr-inner i h =
      let f : (k : ℕ) → k < 5 → word_at (part s at n) (i + k) ≡ word_at s (at + i + k) = λ k l. word-inner (i + k) (at + i + k) (omega arith) (omega arith) in
      λ j. record { name = word-inner i (at + i) (omega arith) refl j; chars = f 1 (omega arith) j; code = f 2 (omega arith) j; count = f 3 (omega arith) j; values = f 4 (omega arith) j }

  pub var-inner : (i : ℕ) → i + 16 ≤ n → var_of (part s at n) i ≡ var_of s (at + i)
  unfolding var_of
  var-inner i h =
      let f : (k : ℕ) → k < 16 → word_at (part s at n) (i + k) ≡ word_at s (at + i + k) = λ k l. word-inner (i + k) (at + i + k) (omega arith) (omega arith) in
      let ids = tab-ext (λ k. word_at (part s at n) (i + 8 + k)) (λ k. word_at s (at + i + 8 + k)) 8 (λ k l. word-inner (i + 8 + k) (at + i + 8 + k) (omega arith) (omega arith)) in
      λ j. record {
        name = word-inner i (at + i) (omega arith) refl j;
        chars = f 1 (omega arith) j;
        ids = ids j;
        rank = f 2 (omega arith) j;
        first = f 3 (omega arith) j;
        attrs = f 4 (omega arith) j;
        code = f 5 (omega arith) j;
        vsize = f 6 (omega arith) j;
        begin = f 7 (omega arith) j;
      }
