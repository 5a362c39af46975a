-- The same bits in a file that is widened or narrowed.
use Prim.Native.Nat.{ℕ, zero, suc, ◌+◌, ◌-◌, ◌*◌, ◌≤◌, ◌<◌}
use native.Mathlib.Omega.{arith}
use mathlib.Core.Path.{◌≡◌, refl, sym, ap, ◌∙◌}
use mathlib.Core.Bool.{Bool, true, false, cond}
use mathlib.Core.List.{List, ◌++◌}
use lib.ListN.{length, drop, get_or, length-append, length-drop}
use lib.Seq.{get_or-drop, get_or-append-add}
use lib.Dec.{ltb, leb}
use borrow.Author.Tests.{leb-true, le-leb, ltb-true}
use Rattle.cdf.specs.Step.{bind, test}
use Rattle.cdf.specs.Magic.{both_versions}
use Rattle.cdf.proofs.Laws.Below.{holds_at}
use Rattle.grammar.specs.Tables.{var_at}
use Rattle.grammar.specs.Meaning.{Meaning}
use Rattle.grammar.specs.declared.tables.Var.{Var}
use Rattle.rules.specs.Encode.{encode}
use Rattle.items.specs.Types.{size_of}
use Rattle.sizes.specs.Records.{is_record, chunk}
use Rattle.bigendian.specs.Number.{be}
use Rattle.found.specs.Sought.{tables_hold, spread, sought}
use Rattle.reads.specs.Reads.{element_at, bits, holds}
use Rattle.reads.specs.Element.{element_of, element_read}
use Rattle.found.specs.declared.variable.Spread.{Spread}
use Rattle.order.specs.Writable.{to_write}
use Rattle.convert.specs.Convert.{moved, moved_tables, new_tables}
use Rattle.convert.proofs.Laws.Read.{row_is}
use Rattle.demands.proofs.Alike.{record_same, chunk-same, step_same}
use Rattle.demands.specs.Derived.{AreBytes}
use Rattle.demands.proofs.Written.{read-holds}
use Rattle.demands.specs.Converted.{Convertible, old_header, shift, new_file, new_header, ConvertedBits}
use Rattle.convert.proofs.Laws.Read.{record_is}
use Rattle.demands.proofs.Moved.{moved_order}
use Rattle.demands.proofs.Converted.{alike, end_below, few-old, full-old, ids-new, new-header-length, new-said}

-- a variable's values, from a begin that moves
abbrev moved_spread : (ℕ → ℕ) → Spread → Spread
moved_spread f v = record { begin = f v.begin; records = v.records; step = v.step; chunk = v.chunk; width = v.width; code = v.code }

be-same : (k : ℕ) (s t : List ℕ) (p q : ℕ) → ((j : ℕ) → j < k → get_or s (p + j) 0 ≡ get_or t (q + j) 0) → be k s p ≡ be k t q
unfolding be
be-same zero s t p q h = refl
be-same (suc k) s t p q h = rw (be-same k s t p q (λ j l. h j (omega arith)), h k (omega arith))

-- bytes behind a header that is put in the place of another
behind-byte : (new file : List ℕ) (old p : ℕ) → old ≤ p → get_or (new ++ drop old file) (p - old + length new) 0 ≡ get_or file p 0
behind-byte new file old p h =
    let e : p - old + length new ≡ length new + (p - old) = omega arith in
    let g : old + (p - old) ≡ p = omega arith in
    ap (λ (n : ℕ). get_or (new ++ drop old file) n 0) e ∙ get_or-append-add new (drop old file) (p - old) 0 ∙ get_or-drop old file (p - old) 0 ∙ ap (λ (n : ℕ). get_or file n 0) g

module _ (new file : List ℕ) (old : ℕ) (short : old ≤ length file) (v : Spread) (behind : old ≤ v.begin) where
  -- where an element lies in the new file
  at_moved : (r e : ℕ) → element_at (moved_spread (moved old (length new)) v) r e ≡ moved old (length new) (element_at v r e)
  at_moved r e = let x = r * v.step in let y = e * v.width in let q : v.begin - old + length new + x + y ≡ v.begin + x + y - old + length new = omega arith in q

  holds-moved : (r e : ℕ) → holds (length (new ++ drop old file)) 0 (element_at (moved_spread (moved old (length new)) v) r e) v.width ≡ holds (length file) 0 (element_at v r e) v.width
  unfolding holds
  holds-moved r e =
      let a = element_at v r e in
      let far : old ≤ a = let x = r * v.step in let y = e * v.width in omega arith in
      let end : element_at (moved_spread (moved old (length new)) v) r e + v.width ≡ moved old (length new) (a + v.width) = let at = at_moved r e in omega arith in
      let all : 0 + length (new ++ drop old file) ≡ moved old (length new) (0 + length file) = let l = length-append new (drop old file) in let m = length-drop old file in omega arith in
      rw (le-leb 0 (element_at (moved_spread (moved old (length new)) v) r e) (omega arith), le-leb 0 a (omega arith), end, all) (moved_order old (length new) (a + v.width) (0 + length file) (omega arith) (omega arith))

  bits-moved : (r e : ℕ) → bits (moved_spread (moved old (length new)) v) (new ++ drop old file) 0 r e ≡ bits v file 0 r e
  bits-moved r e =
      let x = r * v.step in
      let y = e * v.width in
      be-same v.width (new ++ drop old file) file (element_at (moved_spread (moved old (length new)) v) r e - 0) (element_at v r e - 0)
      (λ j l.
      let a = element_at v r e in
      let at = at_moved r e in
      let far : old ≤ a = omega arith in
      let n : element_at (moved_spread (moved old (length new)) v) r e - 0 + j ≡ a + j - old + length new = omega arith in
      let m : a + j ≡ a - 0 + j = omega arith in
      ap (λ (q : ℕ). get_or (new ++ drop old file) q 0) n ∙ behind-byte new file old (a + j) (omega arith) ∙ ap (λ (q : ℕ). get_or file q 0) m)

  element-moved : (r e : ℕ) → element_of (new ++ drop old file) 0 r e (moved_spread (moved old (length new)) v) ≡ element_of file 0 r e v
  unfolding element_of
  element-moved r e = rw (holds-moved r e, bits-moved r e)

-- an element of the new file
module _ (version : ℕ) (s rest : List ℕ) (bytes : AreBytes s) (z : (old_header version s rest).number ≡ 0) (c : Convertible version s (old_header version s rest)) where
  spread-moved : (i : ℕ) → i < (old_header version s rest).tables.nvars
      → spread (new_header version s rest).tables (var_at (new_header version s rest).tables i) ≡ moved_spread (shift version s rest) (spread (old_header version s rest).tables (var_at (old_header version s rest).tables i))
  unfolding spread moved_tables is_record chunk
  spread-moved i l =
      let t = (old_header version s rest).tables in
      let u = new_tables version s (old_header version s rest) in
      let w = (new_header version s rest).tables in
      let row = row_is version (shift version s rest) t (full-old version s rest bytes z c) (few-old version s rest bytes z c) i l in
      let k = (alike version s rest bytes z c).vars i l in
      let is-record = sym (record_same s (new_file version s rest) (alike version s rest bytes z c) (ids-new version s rest bytes z c) i l) ∙ ap (is_record t.dims) row in
      let count = ap (λ (y : Meaning). y.count) (new-said version s rest bytes z c).2 in
      let step = sym (step_same s (new_file version s rest) (alike version s rest bytes z c) (ids-new version s rest bytes z c)) ∙ record_is version (shift version s rest) t (full-old version s rest bytes z c) (few-old version s rest bytes z c) in
      let chunks = sym (chunk-same s (new_file version s rest) (alike version s rest bytes z c) (ids-new version s rest bytes z c) i l) ∙ ap (chunk t.dims) row in
      let code = sym k.code ∙ ap (λ (v : Var). v.code) row in
      let begin = sym k.begin ∙ ap (λ (v : Var). v.begin) row in
      λ j. record { begin = begin j; records = cond (is-record j) (count j) 1; step = step j; chunk = chunks j; width = size_of (code j); code = code j }

  old-begin : (i : ℕ) → i < (old_header version s rest).tables.nvars → (old_header version s rest).end ≤ (spread (old_header version s rest).tables (var_at (old_header version s rest).tables i)).begin
  unfolding spread
  old-begin i l = leb-true _ _ (holds_at (λ j. leb (old_header version s rest).end (var_at (old_header version s rest).tables j).begin) (old_header version s rest).tables.nvars i c.behind l)

  element-same : (i r e : ℕ) → i < (old_header version s rest).tables.nvars
      → element_of (new_file version s rest) 0 r e (spread (new_header version s rest).tables (var_at (new_header version s rest).tables i)) ≡ element_of (s ++ rest) 0 r e (spread (old_header version s rest).tables (var_at (old_header version s rest).tables i))
  element-same i r e l =
      let x = old_header version s rest in
      let v = spread x.tables (var_at x.tables i) in
      let head = encode (to_write s (new_tables version s x)) in
      let same = ap (λ (n : ℕ). moved_spread (moved x.end n) v) (sym (new-header-length version s (length (s ++ rest)) bytes z c)) in
      ap (element_of (new_file version s rest) 0 r e) (spread-moved i l ∙ same)
      ∙ element-moved head (s ++ rest) x.end (end_below version s rest bytes z c) v (old-begin i l) r e

  nvars-same : (new_header version s rest).tables.nvars ≡ (old_header version s rest).tables.nvars
  unfolding moved_tables
  nvars-same = sym (alike version s rest bytes z c).nvars

  reads_same : (i r e : ℕ) → element_read (new_header version s rest).tables (new_file version s rest) 0 i r e ≡ element_read (old_header version s rest).tables (s ++ rest) 0 i r e
  unfolding element_read sought bind test
  reads_same i r e =
      let a = read-holds (new_file version s rest) (shift version s rest (length (s ++ rest))) both_versions (new-said version s rest bytes z c).0 in
      let b = read-holds s (length (s ++ rest)) both_versions z in
      by (ltb i (old_header version s rest).tables.nvars) refl a b
    where
      by : (q : Bool) → ltb i (old_header version s rest).tables.nvars ≡ q → tables_hold (new_header version s rest).tables ≡ true → tables_hold (old_header version s rest).tables ≡ true
          → element_read (new_header version s rest).tables (new_file version s rest) 0 i r e ≡ element_read (old_header version s rest).tables (s ++ rest) 0 i r e
      by true k a b = rw (a, b, nvars-same, k) (element-same i r e (ltb-true _ _ k))
      by false k a b = rw (a, b, nvars-same, k) refl

pub converted-bits : ConvertedBits
unfolding ConvertedBits
converted-bits version s rest bytes z c i r e = reads_same version s rest bytes z c i r e
