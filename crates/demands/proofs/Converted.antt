-- Files that are widened or narrowed: their new tables can be written, and the new file reads.
use Prim.Native.Nat.{ℕ, ◌≤◌, ◌<◌}
use native.Mathlib.Omega.{arith}
use mathlib.Core.Path.{◌≡◌, refl, sym, ap, subst, ◌∙◌}
use mathlib.Core.Bool.{true}
use mathlib.Core.List.{List, ◌++◌}
use lib.ListN.{length, drop, length-append, length-drop}
use lib.Dec.{leb}
use borrow.Author.Tests.{leb-true, le-leb}
use Rattle.bigendian.specs.Number.{half}
use Rattle.cdf.specs.Form.{form}
use Rattle.cdf.specs.Magic.{both_versions}
use Rattle.cdf.proofs.Laws.Below.{both, holds_at}
use Rattle.grammar.specs.Tables.{no_var, var_at}
use Rattle.grammar.specs.Meaning.{Contents, Meaning, said, held}
use Rattle.grammar.specs.declared.tables.Var.{Var}
use Rattle.rules.specs.Encode.{encode}
use Rattle.rules.specs.Capacity.{fits}
use Rattle.rules.specs.Range.{in_range}
use Rattle.rules.proofs.Laws.Views.{fits-see, fits-tell, range-see, range-tell}
use Rattle.model.specs.Model.{ids_hold, model_holds}
use Rattle.sizes.specs.Records.{sizes_hold, ends_hold, max_position}
use Rattle.order.specs.Writable.{rows_inside, to_write, count_holds, size_holds, writable}
use Rattle.order.specs.Inner.Rows.{FullRows}
use Rattle.header.specs.Header.{read_header}
use Rattle.header.specs.declared.reader.HeaderAnswer.{HeaderAnswer as Header}
use Rattle.convert.specs.Convert.{moved, moved_var, moved_tables, new_end, new_tables}
use Rattle.convert.specs.Inner.Read.{Read}
use Rattle.convert.proofs.Laws.Moved.{length-up_to}
use Rattle.convert.proofs.Laws.Read.{table-full, table-within, table-ids, begin-small, row_is, new-ids, ends-suffice}
use Rattle.demands.proofs.Alike.{Alike}
use Rattle.demands.proofs.Placed.{said-alike}
use Rattle.demands.specs.Derived.{AreBytes}
use Rattle.demands.specs.Written.{ReadIsWritable, HasRows, WrittenIsRead}
use Rattle.demands.proofs.Written.{read-size, read_short, read-is-writable, read-end, written-is-read, inside-placed, read-placed}
use Rattle.demands.specs.Converted.{Convertible, ConvertedIsWritable, moved_contents, old_header, shift, new_file, new_header, ConvertedIsRead}
use Rattle.order.proofs.Laws.Words.{and}
use Rattle.demands.proofs.Moved.{begins-said, contents-moved, count_kept, count-moved, encode-length, fits_moved, inside-moved, model-moved, moved-begin-fits, moved-begin-small, range_moved, size_above}

-- the new tables of a header that was read can be written
module _ (version : ℕ) (s : List ℕ) (size : ℕ) (bytes : AreBytes s) (z : (read_header s size both_versions).number ≡ 0) (c : Convertible version s (read_header s size both_versions)) where
  h : Header
  h = read_header s size both_versions

  read : Read s h
  unfolding h
  read = record { size = size; is = refl; accepted = z }

  converted-writable : writable s (new_tables version s h) ≡ true
  unfolding writable count_holds size_holds h ReadIsWritable moved_tables
  converted-writable =
      let t = h.tables in
      let u = new_tables version s h in
      let f = moved h.end (new_end version s h) in
      let m = to_write s t in
      let full = table-full s h read in
      let few = (table-within s h read).vars in
      let k = both (rows_inside s t) _ (read-is-writable s size both_versions bytes z) in
      let fit = both (fits m) _ k.1 in
      let range = both (in_range m) _ fit.1 in
      let model = both (model_holds s t) _ range.1 in
      let sizes = both (sizes_hold t) _ model.1 in
      let count = both (count_holds s t) _ sizes.1 in
      let ends = both (ends_hold t t.count) (size_holds s t) count.1 in
      let room = both (leb (length (encode m)) t.size) (leb t.size max_position) ends.1 in
      let end = read-end s size both_versions bytes z in
      let fitting = leb-true (length (encode m)) t.size room.0 in
      let new-sizes = ends-suffice version f t full few sizes.0 t.count c.ends in
      let said = contents-moved version f s t (let v = full.vars in omega arith) in
      let low : h.end ≤ t.size = omega arith in
      let begins : (i : ℕ) → i < t.nvars → (h.end ≤ (var_at t i).begin) × ((var_at t i).begin ≤ max_position) × (f (var_at t i).begin ≤ max_position) =
      λ i l. (leb-true _ _ (holds_at (λ j. leb h.end (var_at t j).begin) t.nvars i c.behind l), begin-small t sizes.0 i l, moved-begin-small version f t full few new-sizes i l) in
      let long : length (encode (to_write s u)) ≡ new_end version s h = ap (λ (x : Contents). length (encode x)) said ∙ encode-length version f m in
      and (inside-moved version f s t full few k.0)
      (and (subst (λ (x : Contents). fits x ≡ true) (sym said) (fits-tell _ (fits_moved version f m (fits-see m fit.0))))
      (and (subst (λ (x : Contents). in_range x ≡ true) (sym said) (range-tell _ (range_moved version f m c.known (range-see m range.0) (begins-said (λ (b : ℕ). f b < half (form version).begin_bytes) s t (let v = full.vars in omega arith) (moved-begin-fits version f t full few _ c.begins)))))
      (and (model-moved version f s t full few model.0)
      (and new-sizes
      (and (count_kept version f t s (count-moved version h.end (new_end version s h) t full few low (leb-true _ _ room.1) begins) count.0)
      (and c.ends
      (and (le-leb _ _ (size_above version h.end (new_end version s h) _ t long)) (le-leb _ _ c.size))))))))

  -- the length of the new header
  new-length : length (encode (to_write s (new_tables version s h))) ≡ new_end version s h
  unfolding h
  new-length =
      let t = h.tables in
      let f = moved h.end (new_end version s h) in
      let full = table-full s h read in
      let few = (table-within s h read).vars in
      ap (λ (x : Contents). length (encode x)) (contents-moved version f s t (let v = full.vars in omega arith)) ∙ encode-length version f (to_write s t)

  new-rows : HasRows (new_tables version s h)
  unfolding moved_tables h
  new-rows =
      let t = h.tables in
      let f = moved h.end (new_end version s h) in
      let full = table-full s h read in
      let few = (table-within s h read).vars in
      record {
        dims = full.dims;
        attrs = full.attrs;
        vars = length-up_to (moved_var f) no_var t.nvars t.vars ∙ full.vars;
        ids = λ i l. ap (λ (v : Var). length v.ids) (row_is version f t full few i l) ∙ full.ids i l (omega arith);
      }

pub new-header-length : (version : ℕ) (s : List ℕ) (size : ℕ) → AreBytes s → (read_header s size both_versions).number ≡ 0 → Convertible version s (read_header s size both_versions)
    → length (encode (to_write s (new_tables version s (read_header s size both_versions)))) ≡ new_end version s (read_header s size both_versions)
unfolding h
new-header-length version s size bytes z c = new-length version s size bytes z c

pub converted-is-writable : ConvertedIsWritable
unfolding ConvertedIsWritable h
converted-is-writable version s size bytes z c = converted-writable version s size bytes z c

-- the new file reads
module _ (version : ℕ) (s rest : List ℕ) (bytes : AreBytes s) (z : (old_header version s rest).number ≡ 0) (c : Convertible version s (old_header version s rest)) where
  size_is : (new_tables version s (old_header version s rest)).size ≡ shift version s rest (length (s ++ rest))
  unfolding moved_tables
  size_is = ap (shift version s rest) (read-size s (length (s ++ rest)) both_versions bytes z)

  pub end_below : (old_header version s rest).end ≤ length (s ++ rest)
  end_below =
      let a = read_short s (length (s ++ rest)) both_versions bytes z in
      let b = read-end s (length (s ++ rest)) both_versions bytes z in
      let d = length-append s rest in
      omega arith

  file-length : length (new_file version s rest) ≡ shift version s rest (length (s ++ rest))
  unfolding h
  file-length =
      let x = old_header version s rest in
      let a = length-append (encode (to_write s (new_tables version s x))) (drop x.end (s ++ rest)) in
      let b = length-drop x.end (s ++ rest) in
      let d = new-length version s (length (s ++ rest)) bytes z c in
      let e = end_below in
      omega arith

  -- what the writer's round trip gives
  pub new-said : ((new_header version s rest).number ≡ 0) × ((new_header version s rest).end ≡ length (encode (to_write s (new_tables version s (old_header version s rest)))))
      × (said (new_file version s rest) (new_header version s rest).tables ≡ said s (new_tables version s (old_header version s rest)))
  unfolding WrittenIsRead h
  new-said =
      let x = old_header version s rest in
      let u = new_tables version s x in
      let n = length (s ++ rest) in
      let w = written-is-read s u (new-rows version s n bytes z c) (converted-writable version s n bytes z c) (drop x.end (s ++ rest)) (let e = file-length in let g = size_is in omega arith) in
      subst
      (λ (k : ℕ). ((read_header (new_file version s rest) k both_versions).number ≡ 0) × ((read_header (new_file version s rest) k both_versions).end ≡ length (encode (to_write s u))) × (said (new_file version s rest) (read_header (new_file version s rest) k both_versions).tables ≡ said s u))
      size_is w

  pub full-old : FullRows (old_header version s rest).tables
  unfolding h
  full-old = table-full s (old_header version s rest) (read version s (length (s ++ rest)) bytes z c)

  pub few-old : (old_header version s rest).tables.nvars ≤ 64
  unfolding h
  few-old = (table-within s (old_header version s rest) (read version s (length (s ++ rest)) bytes z c)).vars

  reads-alike : ((new_header version s rest).number ≡ 0) × ((new_header version s rest).end ≡ new_end version s (old_header version s rest)) × (length (new_file version s rest) ≡ shift version s rest (length (s ++ rest)))
      × ((said (new_file version s rest) (new_header version s rest).tables).contents ≡ moved_contents version (shift version s rest) (said s (old_header version s rest).tables).contents) × ((new_header version s rest).tables.count ≡ (old_header version s rest).tables.count)
  unfolding h moved_tables
  reads-alike =
      let v = new-said in (
        v.0,
        v.1 ∙ new-length version s (length (s ++ rest)) bytes z c,
        file-length,
        ap (λ (y : Meaning). y.contents) v.2 ∙ contents-moved version (shift version s rest) s (old_header version s rest).tables (let q = full-old.vars in let l = few-old in omega arith),
        ap (λ (y : Meaning). y.count) v.2,
      )

  -- the new file's tables are like those that were written
  pub alike : Alike s (new_file version s rest) (new_tables version s (old_header version s rest)) (new_header version s rest).tables
  unfolding writable h held
  alike =
      let u = new_tables version s (old_header version s rest) in
      let v = new-said in
      let k = both (rows_inside s u) _ (converted-writable version s (length (s ++ rest)) bytes z c) in
      said-alike s (new_file version s rest) u (new_header version s rest).tables (inside-placed s u (new-rows version s (length (s ++ rest)) bytes z c) k.0) (read-placed (new_file version s rest) (shift version s rest (length (s ++ rest))) both_versions v.0)
      (sym (ap (λ (y : Meaning). y.size) v.2)) (sym (ap (λ (y : Meaning). y.contents) v.2))

  pub ids-new : ids_hold (new_tables version s (old_header version s rest)) ≡ true
  unfolding h
  ids-new = new-ids version (shift version s rest) (old_header version s rest).tables full-old few-old (table-ids s (old_header version s rest) (read version s (length (s ++ rest)) bytes z c))

pub converted-is-read : ConvertedIsRead
unfolding ConvertedIsRead
converted-is-read version s rest bytes z c = reads-alike version s rest bytes z c
