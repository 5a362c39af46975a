-- What is known of a header that was read, and of its tables once they are moved.
use Prim.Native.Nat.{ℕ, zero, suc, ◌+◌, ◌-◌, ◌*◌, ◌≤◌, ◌<◌}
use native.Mathlib.Omega.{arith}
use mathlib.Core.Path.{◌≡◌, refl, sym, ap, subst, ◌∙◌}
use mathlib.Core.Bool.{Bool, true, false, cond, ◌&&◌}
use mathlib.Core.List.{List}
use lib.ListN.{length}
use lib.Dec.{leb, eqb}
use borrow.Author.Tests.{leb-true, le-leb}
use Rattle.cdf.specs.Below.{all_below}
use Rattle.cdf.specs.Magic.{both_versions}
use Rattle.cdf.proofs.Laws.Below.{both, all_hold, holds_at}
use Rattle.cdf.proofs.Laws.Step.{into-got}
use Rattle.grammar.specs.Tables.{laid, with_count, no_var, var_at}
use Rattle.grammar.specs.Meaning.{contents, held}
use Rattle.grammar.specs.Inner.Within.{Within, RowShaped, Shaped}
use Rattle.grammar.specs.declared.tables.Var.{Var}
use Rattle.grammar.specs.declared.tables.Tables.{Tables}
use Rattle.grammar.proofs.Laws.Within.{read-within}
use Rattle.rules.specs.Encode.{encode}
use Rattle.rules.proofs.Laws.Capacity.{read_held}
use Rattle.model.specs.Model.{id_holds, ids_hold}
use Rattle.sizes.specs.Records.{total, is_record, chunk, chunk_bytes, record_part, padded_bytes, record_size, sizes_hold, end_of, ends_hold, max_position, max_chunk}
use Rattle.order.specs.Writable.{rows_inside, to_write}
use Rattle.order.specs.Inner.Lengths.{header_length}
use Rattle.order.proofs.Laws.Inside.{Inside, inside}
use Rattle.order.specs.Inner.Rows.{FullRows}
use Rattle.order.proofs.Laws.Read.{laid-inside, laid-full}
use Rattle.order.proofs.Laws.Lengths.{encoded-length}
use Rattle.order.proofs.Laws.Said.{model-ids}
use Rattle.order.proofs.Laws.Words.{and}
use Rattle.header.specs.Header.{read_header}
use Rattle.header.specs.declared.reader.HeaderAnswer.{HeaderAnswer as Header}
use Rattle.header.proofs.Laws.Accepted.{Came, accepted-came, tree-size, same-model, same-sizes}
use Rattle.convert.specs.Convert.{moved, in_version, moved_var, moved_tables, new_end, new_tables}
use Rattle.convert.specs.Inner.Read.{Read, versioned}
use Rattle.convert.proofs.Laws.Moved.{moved_row}

pub same-inside : (s : List ℕ) (t : Tables) (n : ℕ) → rows_inside s (with_count t n) ≡ rows_inside s t
unfolding rows_inside
same-inside s t n = refl

-- the tables that were read
module _ (s : List ℕ) (h : Header) (r : Read s h) where
  came : Came s r.size both_versions (read_header s r.size both_versions)
  came = accepted-came s r.size both_versions (ap (λ (x : Header). x.number) (sym r.is) ∙ r.accepted)

  table_is : h.tables ≡ with_count (laid came.tree) came.count
  table_is = ap (λ (x : Header). x.tables) (r.is ∙ came.is)

  laid-within : Within (laid came.tree)
  laid-within = read-within both_versions s r.size (into-got laid refl came.read)

  pub table-inside : Inside s h.tables
  table-inside =
      inside (ap (rows_inside s) table_is ∙ same-inside s (laid came.tree) came.count ∙ laid-inside s came.tree (read_held s r.size both_versions came.read) laid-within)

  pub table-full : FullRows h.tables
  table-full =
      let f = laid-full s came.tree (read_held s r.size both_versions came.read) laid-within in
      subst FullRows (sym table_is) (record { dims = f.dims; attrs = f.attrs; vars = f.vars; ids = f.ids })

  pub table-within : Within h.tables
  table-within = let w = laid-within in subst Within (sym table_is) (record { dims = w.dims; attrs = w.attrs; globals = w.globals; vars = w.vars; rows = w.rows })

  pub table-ids : ids_hold h.tables ≡ true
  table-ids = ap ids_hold table_is ∙ model-ids s (with_count (laid came.tree) came.count) (same-model s (laid came.tree) came.count ∙ came.model)

  pub table-sizes : sizes_hold h.tables ≡ true
  table-sizes = ap sizes_hold table_is ∙ same-sizes (laid came.tree) came.count ∙ came.sizes

  pub size_small : h.tables.size ≤ max_position
  unfolding laid
  size_small =
      let e : h.tables.size ≡ r.size = ap (λ (t : Tables). t.size) table_is ∙ tree-size s r.size both_versions came.read in
      let k = came.small in
      subst (λ (n : ℕ). n ≤ max_position) (sym e) k

-- a version alone changes nothing but the width of the begins
module _ (version : ℕ) (s : List ℕ) (t : Tables) (full : FullRows t) (k : Inside s t) where
  versioned-length : length (encode (in_version version (to_write s t))) ≡ header_length (versioned version t)
  unfolding contents held
  versioned-length =
      let c = k.counted in
      encoded-length s (versioned version t) (record { dims = full.dims; attrs = full.attrs; vars = full.vars; ids = full.ids })
      (record {
        counted = record { dims = c.dims; vars = c.vars; attrs = c.attrs; globals = c.globals; spans = c.spans };
        dims = k.dims;
        attrs = k.attrs;
        values = k.values;
        vars = k.vars;
        ranks = k.ranks;
      })

pub new-end-is : (version : ℕ) (s : List ℕ) (h : Header) → Read s h → header_length (versioned version h.tables) ≡ new_end version s h
new-end-is version s h r = sym (versioned-length version s h.tables (table-full s h r) (table-inside s h r))

-- a begin that rule 12 has let through
pub begin-small : (t : Tables) → sizes_hold t ≡ true → (i : ℕ) → i < t.nvars → (var_at t i).begin ≤ max_position
unfolding sizes_hold
begin-small t e i l =
    let a = (both (all_below t.nvars (λ j. leb (var_at t j).begin max_position && leb (padded_bytes t.dims (var_at t j)) max_chunk)) (leb (record_size t) max_chunk) e).0 in
    leb-true _ _ (both (leb (var_at t i).begin max_position) _ (holds_at _ t.nvars i a l)).0

pub total-same : (g h : ℕ → ℕ) (n : ℕ) → ((k : ℕ) → k < n → g k ≡ h k) → total g n ≡ total h n
unfolding total
total-same g h zero e = refl
total-same g h (suc n) e = rw (total-same g h n (λ k l. e k (omega arith)), e n (omega arith))

-- an end is never below its begin
end-above : (t : Tables) (n : ℕ) (v : Var) → v.begin ≤ end_of t n v
end-above t n v = by (is_record t.dims v) (eqb n 0)
  where
    by : (b c : Bool) → v.begin ≤ cond b (cond c v.begin (v.begin + (n - 1) * record_size t + padded_bytes t.dims v)) (v.begin + padded_bytes t.dims v)
    by true true = omega arith
    by true false = let x = (n - 1) * record_size t in omega arith
    by false c = omega arith

-- tables whose positions are moved
module _ (version : ℕ) (f : ℕ → ℕ) (t : Tables) (full : FullRows t) (few : t.nvars ≤ 64) where
  pub row_is : (i : ℕ) → i < t.nvars → var_at (moved_tables version f t) i ≡ moved_var f (var_at t i)
  unfolding moved_tables
  row_is i l = let m = full.vars in moved_row (moved_var f) no_var t.nvars t.vars i l (omega arith)

  pub new-shaped : Within t → Shaped (moved_tables version f t)
  unfolding moved_tables
  new-shaped w =
      record {
        dims = w.dims;
        vars = w.vars;
        rows = λ i l. let e = row_is i l in let x = w.rows i l in
            subst RowShaped (sym e) (record { rank = x.rank; low = x.low; high = x.high });
      }

  padded-is : (i : ℕ) → i < t.nvars → padded_bytes t.dims (var_at (moved_tables version f t) i) ≡ padded_bytes t.dims (var_at t i)
  unfolding padded_bytes chunk_bytes chunk is_record
  padded-is i l = ap (padded_bytes t.dims) (row_is i l)

  pub record_is : record_size (moved_tables version f t) ≡ record_size t
  unfolding record_size moved_tables is_record padded_bytes chunk_bytes chunk
  record_is = total-same (λ i. record_part t.dims (var_at (moved_tables version f t) i)) (λ i. record_part t.dims (var_at t i)) t.nvars (λ i l. ap (record_part t.dims) (row_is i l))

  pub new-ids : ids_hold t ≡ true → ids_hold (moved_tables version f t) ≡ true
  unfolding ids_hold moved_tables id_holds
  new-ids e = all_hold _ t.nvars (λ i l. subst (λ (v : Var). all_below v.rank (id_holds t v) ≡ true) (sym (row_is i l)) (holds_at _ t.nvars i e l))

  -- rule 15 gives what is left of rule 12: an end is never below its begin
  pub ends-suffice : sizes_hold t ≡ true → (n : ℕ) → ends_hold (moved_tables version f t) n ≡ true → sizes_hold (moved_tables version f t) ≡ true
  unfolding sizes_hold ends_hold moved_tables
  ends-suffice e n k =
      let u = moved_tables version f t in
      let a = both (all_below t.nvars (λ j. leb (var_at t j).begin max_position && leb (padded_bytes t.dims (var_at t j)) max_chunk)) (leb (record_size t) max_chunk) e in
      and
      (all_hold (λ j. leb (var_at u j).begin max_position && leb (padded_bytes u.dims (var_at u j)) max_chunk) u.nvars (λ i l.
      let b = leb-true (end_of u n (var_at u i)) max_position (holds_at (λ j. leb (end_of u n (var_at u j)) max_position) u.nvars i k l) in
      let c = end-above u n (var_at u i) in
      and (le-leb (var_at u i).begin max_position (omega arith)) (chunk_small i l a.0)))
      (ap (λ (m : ℕ). leb m max_chunk) record_is ∙ a.1)
    where
      chunk_small : (i : ℕ) → i < (moved_tables version f t).nvars → all_below t.nvars (λ j. leb (var_at t j).begin max_position && leb (padded_bytes t.dims (var_at t j)) max_chunk) ≡ true
          → leb (padded_bytes (moved_tables version f t).dims (var_at (moved_tables version f t) i)) max_chunk ≡ true
      chunk_small i l a = ap (λ (m : ℕ). leb m max_chunk) (padded-is i l) ∙ (both (leb (var_at t i).begin max_position) _ (holds_at _ t.nvars i a l)).1

-- what is known of the tables that the code makes
pub record Facts (u : Tables) : Type 0 where
  pub few : u.nvars ≤ 64
  pub shaped : Shaped u
  pub ids : ids_hold u ≡ true
  pub suffice : ends_hold u u.count ≡ true → sizes_hold u ≡ true

pub new-facts : (version : ℕ) (s : List ℕ) (h : Header) {u : Tables} → Read s h → u ≡ new_tables version s h → Facts u
unfolding moved_tables
new-facts version s h r e =
    let t = h.tables in
    let f = moved h.end (new_end version s h) in
    let w = table-within s h r in
    let full = table-full s h r in
    let few = w.vars in
    subst Facts (sym e)
    (record {
      few = few;
      shaped = new-shaped version f t full few w;
      ids = new-ids version f t full few (table-ids s h r);
      suffice = ends-suffice version f t full few (table-sizes s h r) t.count;
    })
