-- The round trips.
use Prim.Native.Nat.{ℕ, ◌+◌, ◌≤◌, ◌<◌}
use native.Mathlib.Omega.{arith}
use mathlib.Core.Path.{◌≡◌, refl, sym, ap, subst, ◌∙◌}
use mathlib.Core.Bool.{true, ◌&&◌}
use mathlib.Core.List.{List, [], ◌∷◌, ◌++◌}
use lib.ListN.{length, get_or, take, drop, set, length-append, length-drop, length-set}
use lib.Seq.{take_at}
use lib.Dec.{leb, eqb}
use borrow.Author.Tests.{leb-true, le-leb, eq-eqb, eqb-true}
use Rattle.cdf.specs.Step.{Step, got, number_of, given_or}
use Rattle.cdf.specs.Below.{between, all_below}
use Rattle.cdf.specs.Magic.{both_versions}
use Rattle.cdf.specs.declared.version.Admitted.{Admitted}
use Rattle.cdf.proofs.Laws.Below.{both, all_hold, holds_at}
use Rattle.cdf.proofs.Laws.Step.{into-got, by-got, by-true}
use Rattle.rules.proofs.Laws.Sound.{got-place}
use Rattle.grammar.specs.Tree.{Tree, attrs_of}
use Rattle.grammar.specs.Tables.{no_dim, no_attr, zero_var, var_rows, laid, with_count, attr_at, var_at}
use Rattle.grammar.specs.Meaning.{Contents, contents, held, said}
use Rattle.grammar.specs.Inner.Within.{Within}
use Rattle.grammar.specs.declared.tables.Tables.{Tables}
use Rattle.grammar.proofs.Laws.Meaning.{laid-held}
use Rattle.grammar.proofs.Laws.Within.{read-within}
use Rattle.rules.specs.Rules.{Header as Derives}
use Rattle.rules.specs.Capacity.{fits}
use Rattle.rules.specs.Range.{in_range}
use Rattle.rules.specs.Encode.{encode}
use Rattle.rules.specs.Cleared.{empty_tags, cleared}
use Rattle.rules.proofs.Laws.Views.{fits-see, range-see, range-tell, version-tell}
use Rattle.rules.proofs.Laws.Capacity.{Held, read_held}
use Rattle.rules.proofs.Laws.Complete.{header-complete}
use Rattle.rules.proofs.Laws.Encoded.{encode-derived}
use Rattle.rules.proofs.Laws.Range.{header-range}
use Rattle.rules.proofs.Laws.Cleared.{header-back}
use Rattle.order.proofs.Laws.Read.{length-padded, no_item, dim-row, attr-row, var-row, laid-inside}
use Rattle.order.specs.Writable.{is_inside, dim_inside, attr_inside, var_inside, rows_inside, to_write, count_holds, size_holds, writable}
use Rattle.model.specs.Model.{names_hold, one_unlimited, id_holds, ids_hold, model_holds}
use Rattle.sizes.specs.Records.{sizes_hold, ends_hold, max_position}
use Rattle.sizes.specs.Count.{record_count}
use Rattle.convert.proofs.Laws.Read.{same-inside}
use Rattle.header.specs.Header.{answer, judged, read_header}
use Rattle.header.specs.declared.reader.HeaderAnswer.{HeaderAnswer as Header}
use Rattle.header.proofs.Laws.Accepted.{accepted-came, tree-size, same-sizes, same_ends}
use Rattle.found.specs.Sought.{shape_holds, tables_hold}
use Rattle.header.proofs.Laws.Refusals.{Refuses, gives, stops, count-refuses}
use Rattle.demands.proofs.Alike.{model-same, sizes-same, count_same, ends_same}
use Rattle.demands.proofs.Placed.{PlacedVar, Placed, said-alike}
use Rattle.demands.proofs.Derived.{accepted-is-derived}
use Rattle.demands.specs.Derived.{AreBytes, AcceptedIsDerived}
use Rattle.demands.specs.Written.{ReadIsWritable, ReadIsGivenBack, HasRows, WrittenIsRead}

-- the rows of a tree that lies inside the bytes
module _ (s : List ℕ) (h : Tree) (k : Held s h) (w : Within (laid h)) where
  laid-placed : Placed s (laid h)
  unfolding laid
  laid-placed =
      let all = length-append h.globals (attrs_of h.vars) in
      let rows = length-padded 128 no_attr (h.globals ++ attrs_of h.vars) in
      let few = w.attrs in
      record {
        ndims = rw (length-padded 32 no_dim h.dims) w.dims;
        dims = λ i l. (dim-row s h k w i l).inside;
        nglobals = omega arith;
        globals = λ i l. (attr-row s h k w i (omega arith)).name.inside;
        nvars = rw (length-padded 64 zero_var (var_rows (length h.globals) h.vars)) w.vars;
        vars = λ i l.
            let r = var-row s h k w i l in
            let q = r.2 in
            let v = get_or h.vars i no_item in
            let ids = length-padded 8 0 v.ids in
            let low = r.3.rank in
            subst (PlacedVar s (laid h)) (sym r.1)
            (record {
              name = r.3.name.inside;
              rank = omega arith;
              span = omega arith;
              rows = λ j m. (attr-row s h k w (r.0 + j) (omega arith)).name.inside;
            });
      }

-- clearing keeps the number of bytes
cleared-length : (ps s : List ℕ) → length (cleared ps s) ≡ length s
unfolding cleared
cleared-length [] s = refl
cleared-length (p ∷ ps) s = cleared-length ps (set s p 0) ∙ length-set s p 0

-- the length of what is written
back-length : (s u : List ℕ) (m : Contents) → Derives s u m → length (encode m) + length u ≡ length s
back-length s u m d = sym (length-append (encode m) u) ∙ ap length (sym (header-back s u m d)) ∙ cleared-length (empty_tags (length s) d) s

module _ (s : List ℕ) (size : ℕ) (a : Admitted) (bytes : AreBytes s) (z : (read_header s size a).number ≡ 0) where
  table : Tables
  table = (read_header s size a).tables

  table-size : table.size ≡ size
  unfolding table laid
  table-size = let c = accepted-came s size a z in ap (λ (x : Header). x.tables.size) c.is ∙ tree-size s size a c.read

  table-inside : rows_inside s table ≡ true
  unfolding table
  table-inside =
      let c = accepted-came s size a z in
      ap (λ (x : Header). rows_inside s x.tables) c.is ∙ same-inside s (laid c.tree) c.count ∙ laid-inside s c.tree (read_held s size a c.read) (read-within a s size (into-got laid refl c.read))

  short-enough : length (encode (to_write s table)) ≤ length s
  unfolding table AcceptedIsDerived
  short-enough = let d = accepted-is-derived s size a bytes z in let l = back-length s (drop (read_header s size a).end s) _ d.0 in omega arith

  table-writable : writable s table ≡ true
  unfolding writable table count_holds size_holds AcceptedIsDerived
  table-writable =
      let d = accepted-is-derived s size a bytes z in
      let k = d.1 in
      let range = range-tell (to_write s table) (header-range s _ _ d.0) in
      let inside = k.inside in
      let size_is = table-size in
      let low = short-enough in
      rw (
        table-inside,
        k.capacities,
        range,
        k.model,
        k.sizes,
        k.count,
        k.ends,
        le-leb (length (encode (to_write s table))) table.size (omega arith),
        le-leb table.size max_position (let q = k.small in omega arith),
        eq-eqb table.count table.count refl,
      )

  -- where the header ends
  end_is : length (encode (to_write s table)) ≡ (read_header s size a).end
  unfolding table AcceptedIsDerived contents held
  end_is =
      let c = accepted-came s size a z in
      let d = accepted-is-derived s size a bytes z in
      let e = (read_header s size a).end in
      let t = header-complete s size {m = to_write s table} a d.1.version (fits-see _ d.1.capacities) d.0 in
      let same : e ≡ t.1.end = ap (λ (x : Header). x.end) c.is ∙ got-place (c.read ∙ sym t.1.taken) in
      let inside = t.1.inside in
      let l = back-length s (drop e s) _ d.0 in
      let m = length-drop e s in
      omega arith

pub read-is-writable : ReadIsWritable
unfolding ReadIsWritable table
read-is-writable s size a bytes z = table-writable s size a bytes z

pub read-size : (s : List ℕ) (size : ℕ) (a : Admitted) → AreBytes s → (read_header s size a).number ≡ 0 → (read_header s size a).tables.size ≡ size
unfolding table
read-size s size a bytes z = table-size s size a bytes z

pub read_short : (s : List ℕ) (size : ℕ) (a : Admitted) → AreBytes s → (read_header s size a).number ≡ 0 → length (encode (to_write s (read_header s size a).tables)) ≤ length s
unfolding table
read_short s size a bytes z = short-enough s size a bytes z

pub read-end : (s : List ℕ) (size : ℕ) (a : Admitted) → AreBytes s → (read_header s size a).number ≡ 0 → length (encode (to_write s (read_header s size a).tables)) ≡ (read_header s size a).end
unfolding table
read-end s size a bytes z = end_is s size a bytes z

-- the tables of an accepted header: every row where it says, and in order for reads
module _ (s : List ℕ) (size : ℕ) (a : Admitted) (z : (read_header s size a).number ≡ 0) where
  pub read-placed : Placed s (read_header s size a).tables
  read-placed =
      let c = accepted-came s size a z in
      let p = laid-placed s c.tree (read_held s size a c.read) (read-within a s size (into-got laid refl c.read)) in
      subst (Placed s) (sym (ap (λ (x : Header). x.tables) c.is))
      (record {
        ndims = p.ndims;
        dims = p.dims;
        nglobals = p.nglobals;
        globals = p.globals;
        nvars = p.nvars;
        vars = λ i l. let v = p.vars i l in record { name = v.name; rank = v.rank; span = v.span; rows = v.rows };
      })

  pub read-holds : tables_hold (read_header s size a).tables ≡ true
  unfolding tables_hold shape_holds model_holds ids_hold id_holds
  read-holds =
      let c = accepted-came s size a z in
      let t = laid c.tree in
      let w = read-within a s size (into-got laid refl c.read) in
      let m = both (names_hold s t) (one_unlimited t && ids_hold t) c.model in
      let ids : ids_hold (with_count t c.count) ≡ true = same-ids t c.count ∙ (both (one_unlimited t) (ids_hold t) m.1).1 in
      subst (λ (x : Tables). tables_hold x ≡ true) (sym (ap (λ (x : Header). x.tables) c.is))
      (rw (
        le-leb t.ndims 32 w.dims,
        le-leb t.nvars 64 w.vars,
        all_hold (λ i. leb (var_at t i).rank 8 && between 1 6 (var_at t i).code) t.nvars (λ i l. let v = w.rows i l in rw (le-leb (var_at t i).rank 8 v.rank, le-leb 1 (var_at t i).code v.low, le-leb (var_at t i).code 6 v.high)),
        ids,
        same-sizes t c.count ∙ c.sizes,
        same_ends t c.count c.count ∙ c.ends,
      ))
    where
      same-ids : (t : Tables) (n : ℕ) → ids_hold (with_count t n) ≡ ids_hold t
      same-ids t n = refl

pub read-is-given-back : ReadIsGivenBack
unfolding ReadIsGivenBack AcceptedIsDerived table
read-is-given-back s size a bytes z =
    let d = (accepted-is-derived s size a bytes z).0 in
    let e = (read_header s size a).end in
    let m = to_write s (read_header s size a).tables in
    (d, sym (take_at (encode m) (drop e s) e (end_is s size a bytes z)) ∙ ap (take e) (sym (header-back s (drop e s) m d)))

-- the rows of tables that are writable are where they say
module _ (s : List ℕ) (t : Tables) (rows : HasRows t) (k : rows_inside s t ≡ true) where
  pub inside-placed : Placed s t
  unfolding rows_inside
  inside-placed =
      let a = both (leb t.ndims 32) _ k in
      let b = both (leb t.nvars 64) _ a.1 in
      let c = both (leb t.nattrs 128) _ b.1 in
      let d = both (leb t.globals t.nattrs) _ c.1 in
      let e = both (all_below t.ndims (dim_inside s t)) _ d.1 in
      let f = both (all_below t.nattrs (attr_inside s t)) _ e.1 in
      let dims = leb-true t.ndims 32 a.0 in
      let vars = leb-true t.nvars 64 b.0 in
      let attrs = leb-true t.nattrs 128 c.0 in
      let globals = leb-true t.globals t.nattrs d.0 in
      let dl = rows.dims in
      let al = rows.attrs in
      let vl = rows.vars in
      let attr : (i : ℕ) → i < t.nattrs → (attr_at t i).name + (attr_at t i).chars ≤ length s = λ i l. leb-true _ _ (both (is_inside s t (attr_at t i).name (attr_at t i).chars) _ (holds_at (attr_inside s t) t.nattrs i f.0 l)).0 in
      record {
        ndims = omega arith;
        dims = λ i l. leb-true _ _ (holds_at (dim_inside s t) t.ndims i e.0 l);
        nglobals = omega arith;
        globals = λ i l. attr i (omega arith);
        nvars = omega arith;
        vars = λ i l.
            let v = var_at t i in
            let g = both (is_inside s t v.name v.chars) _ (holds_at (var_inside s t) t.nvars i f.1 l) in
            let h = both (leb v.rank 8) _ g.1 in
            let rank = leb-true v.rank 8 h.0 in
            let span = leb-true (v.first + v.attrs) t.nattrs h.1 in
            let il = rows.ids i l in
            record { name = leb-true _ _ g.0; rank = omega arith; span = omega arith; rows = λ j m. attr (v.first + j) (omega arith) };
      }

-- a count that the writer accepts is the reader's
counted : (t : Tables) (s : List ℕ) → count_holds s t ≡ true → (p : ℕ) × (record_count t ≡ got t.count p)
unfolding count_holds
counted t s k = by (count-refuses {P = λ i. i ≡ 0 → ⊥} (λ z. omega arith) (λ z. omega arith) t) (both (eqb (number_of (record_count t)) 0) _ k)
  where
    by : {m : Step ℕ} → Refuses (λ i. i ≡ 0 → ⊥) m → (eqb (number_of m) 0 ≡ true) × (eqb (given_or 0 m) t.count ≡ true) → (p : ℕ) × (m ≡ got t.count p)
    by (gives n p) h = (p, ap (λ (x : ℕ). got x p) (eqb-true n t.count h.1))
    by (stops i p never) h = absurd (never (eqb-true i 0 h.0))

laid-size : (h : Tree) → h.size ≡ (laid h).size
unfolding laid
laid-size h = refl

-- what was written is read
module _ (s : List ℕ) (t : Tables) (rows : HasRows t) (ok : writable s t ≡ true) (u : List ℕ) where
  new : List ℕ
  new = encode (to_write s t) ++ u

  reads : length new ≤ t.size → ((read_header new t.size both_versions).number ≡ 0) × ((read_header new t.size both_versions).end ≡ length (encode (to_write s t))) × (said new (read_header new t.size both_versions).tables ≡ said s t)
  unfolding writable new size_holds read_header judged answer model_holds held
  reads fitting =
      let m = to_write s t in
      let a = both (rows_inside s t) _ ok in
      let b = both (fits m) _ a.1 in
      let c = both (in_range m) _ b.1 in
      let d = both (model_holds s t) _ c.1 in
      let e = both (sizes_hold t) _ d.1 in
      let f = both (count_holds s t) _ e.1 in
      let g = both (ends_hold t t.count) _ f.1 in
      let small = leb-true t.size max_position (both (leb (length (encode m)) t.size) _ g.1).1 in
      let range = range-see m c.0 in
      let x = header-complete new t.size {m = m} both_versions (version-tell m.version range.version) (fits-see m b.0) (encode-derived m u range) in
      let h = x.0 in
      let k = x.1 in
      let w = read-within both_versions new t.size (into-got laid refl k.taken) in
      let back = laid-held h w in
      let said_same : (said new (laid h)).contents ≡ m = ap (contents new) back ∙ x.2 in
      let same_size : t.size ≡ (laid h).size = sym x.3 ∙ laid-size h in
      let like = said-alike s new t (laid h) (inside-placed s t rows a.0) (laid-placed new h (read_held new t.size both_versions k.taken) w) same_size (sym said_same) in
      let ids = (both (one_unlimited t) (ids_hold t) (both (names_hold s t) _ d.0).1).1 in
      let n = counted t s f.0 in
      let judge : got (with_count (laid h) t.count) k.end ≡ judged new (laid h) k.end =
      by-true _ (sym (model-same s new like) ∙ d.0)
      (by-true _ (sym (sizes-same s new like ids) ∙ e.0)
      (by-got _ _ (sym n.1 ∙ count_same s new like ids)
      (by-true _ (sym (ends_same s new like ids t.count) ∙ g.0) refl))) in
      let fine : (leb (length new) t.size && leb t.size max_position) ≡ true = rw (le-leb (length new) t.size fitting, le-leb t.size max_position small) in
      let whole = ap answer (by-true _ fine (by-got (judged new) _ (into-got laid refl k.taken) judge)) in
      let l = length-append (encode m) u in
      let o = ap length k.rest ∙ length-drop k.end new in
      let inside = k.inside in (
        ap (λ (r : Header). r.number) (sym whole),
        ap (λ (r : Header). r.end) (sym whole) ∙ (let q : k.end ≡ length (encode m) = omega arith in q),
        ap (λ (r : Header). said new r.tables) (sym whole) ∙ (λ i. record { contents = said_same i; count = t.count; size = sym same_size i }),
      )

pub written-is-read : WrittenIsRead
unfolding WrittenIsRead new
written-is-read s t rows ok u fitting = reads s t rows ok u fitting
