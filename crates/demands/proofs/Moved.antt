-- Tables whose begins and size are moved: what they say, and the rules that they keep.
use Prim.Native.Nat.{ℕ, zero, suc, ◌+◌, ◌-◌, ◌/◌, ◌%◌, ◌≤◌, ◌<◌, min}
use native.Mathlib.Omega.{arith}
use mathlib.Core.Path.{◌≡◌, refl, sym, ap, subst, ◌∙◌}
use mathlib.Core.Bool.{Bool, true, false, cond, ◌&&◌, false≢true}
use mathlib.Core.Logic.{◌⊎◌, inl, inr}
use mathlib.Core.List.{List, [], ◌∷◌, ◌++◌, map}
use lib.ListN.{length, take, get_or, length-append, length-map}
use lib.Seq.{length-take-le, get_or-take}
use lib.Dec.{ltb, leb, eqb}
use borrow.Author.Tests.{le-leb, lt-leb, ltb-true}
use Rattle.bigendian.specs.Number.{half}
use Rattle.cdf.specs.Step.{Step, got, stop, test, number_of, given_or}
use Rattle.cdf.specs.Below.{all_below, any_below}
use Rattle.cdf.specs.Form.{Form, form}
use Rattle.cdf.proofs.Laws.Below.{order, both, all_hold, holds_at, none-holds, none-at}
use Rattle.grammar.specs.Tree.{VarItem}
use Rattle.grammar.specs.Tables.{no_var, var_at}
use Rattle.grammar.specs.Meaning.{Attribute, Variable, Contents, variable, contents, item_of, held}
use Rattle.grammar.specs.declared.tables.Attr.{Attr}
use Rattle.grammar.specs.declared.tables.Var.{Var}
use Rattle.grammar.specs.declared.tables.Tables.{Tables}
use Rattle.rules.specs.Rules.{spelled}
use Rattle.rules.specs.Encode.{each, list_bytes, name_bytes, dim_bytes, attr_bytes, var_bytes, encode}
use Rattle.rules.proofs.Laws.Spelled.{length-spelled}
use Rattle.rules.specs.Capacity.{attributes_of}
use Rattle.rules.proofs.Laws.Views.{EachIs, VarFits, Fits, AttrInRange, VarInRange, InRange}
use Rattle.rules.proofs.Laws.Capacity.{each_map}
use Rattle.rules.proofs.Laws.Sequence.{all_of}
use Rattle.model.specs.Model.{is_unlimited, dim_names, var_names, attr_names, distinct, names_hold, one_unlimited, ids_hold, model_holds}
use Rattle.sizes.specs.Records.{smallest, is_record, record_size, sizes_hold, max_position}
use Rattle.sizes.specs.Count.{has_unlimited, has_records, is_open, first_begin, record_count}
use Rattle.order.specs.Writable.{dim_inside, attr_inside, var_inside, rows_inside, to_write, count_holds}
use Rattle.order.specs.Inner.Rows.{FullRows}
use Rattle.convert.specs.Convert.{moved, in_version, moved_var, moved_tables}
use Rattle.convert.proofs.Laws.Moved.{up_to}
use Rattle.convert.proofs.Laws.Read.{begin-small, row_is, new-ids}
use Rattle.demands.proofs.Alike.{SameText, any_same, distinct-same, smallest-same}
use Rattle.demands.specs.Converted.{moved_variable, moved_contents}
use Rattle.order.proofs.Laws.Words.{and}
use Rattle.convert.proofs.Laws.Read.{record_is}

-- what moved tables say: the same, in another version, with the begins moved
take-up_to : {A : Type 0} (g : A → A) (d : A) (n : ℕ) (xs : List A) → n ≤ length xs → take n (up_to g d n xs) ≡ map g (take n xs)
take-up_to g d zero xs h = refl
take-up_to g d (suc n) [] h = absurd (omega arith)
take-up_to {A} g d (suc n) (x ∷ xs) h = ap (λ (l : List A). g x ∷ l) (take-up_to g d n xs (omega arith))

said-moved : (s : List ℕ) (f : ℕ → ℕ) (xs : List Attr) (vs : List Var) → map (variable s) (map (item_of xs) (map (moved_var f) vs)) ≡ map (moved_variable f) (map (variable s) (map (item_of xs) vs))
said-moved s f xs [] = refl
said-moved s f xs (v ∷ vs) = ap (λ (l : List Variable). moved_variable f (variable s (item_of xs v)) ∷ l) (said-moved s f xs vs)

pub contents-moved : (version : ℕ) (f : ℕ → ℕ) (s : List ℕ) (t : Tables) → t.nvars ≤ length t.vars → to_write s (moved_tables version f t) ≡ moved_contents version f (to_write s t)
unfolding moved_tables contents held
contents-moved version f s t h =
    let e = ap (λ (l : List Var). map (variable s) (map (item_of t.attrs) l)) (take-up_to (moved_var f) no_var t.nvars t.vars h) ∙ said-moved s f t.attrs (take t.nvars t.vars) in
    λ i. record { version = version; word = t.word; dimensions = (to_write s t).dimensions; globals = (to_write s t).globals; variables = e i }

-- capacities and ranges
attributes-moved : (f : ℕ → ℕ) (vs : List Variable) → attributes_of (map (moved_variable f) vs) ≡ attributes_of vs
unfolding attributes_of
attributes-moved f [] = refl
attributes-moved f (v ∷ vs) = ap (λ (l : List Attribute). v.attributes ++ l) (attributes-moved f vs)

pub fits_moved : (version : ℕ) (f : ℕ → ℕ) (m : Contents) → Fits m → Fits (moved_contents version f m)
fits_moved version f m k =
    record {
      dims = k.dims;
      vars = subst (λ (n : ℕ). n ≤ 64) (sym (length-map m.variables (moved_variable f))) k.vars;
      attrs = subst (λ (l : List Attribute). length (m.globals ++ l) ≤ 128) (sym (attributes-moved f m.variables)) k.attrs;
      dim_names = k.dim_names;
      global_names = k.global_names;
      variables = each_map (moved_variable f) VarFits m.variables (by m.variables k.variables);
    }
  where
    by : (vs : List Variable) → EachIs VarFits vs → EachIs (λ (v : Variable). VarFits (moved_variable f v)) vs
    by [] k = tt
    by (v ∷ vs) k = (record { name = k.0.name; rank = k.0.rank; attributes = k.0.attributes }, by vs k.1)

-- versions do not differ in the ranges of attributes
attrs-moved : (a b : ℕ) (xs : List Attribute) → EachIs (AttrInRange (form a)) xs → EachIs (AttrInRange (form b)) xs
attrs-moved a b [] k = tt
attrs-moved a b (x ∷ xs) k = (record { name = k.0.name; code = k.0.code; count = k.0.count; values = k.0.values }, attrs-moved a b xs k.1)

pub range_moved : (version : ℕ) (f : ℕ → ℕ) (m : Contents) → (version ≡ 1) ⊎ (version ≡ 2) → InRange m → EachIs (λ (v : Variable). f v.begin < half (form version).begin_bytes) m.variables → InRange (moved_contents version f m)
range_moved version f m known k low =
    record {
      version = known;
      word = k.word;
      dims = k.dims;
      dimensions = k.dimensions;
      globals = (k.globals.0, attrs-moved m.version version m.globals k.globals.1);
      vars = subst (λ (n : ℕ). n < half 4) (sym (length-map m.variables (moved_variable f))) k.vars;
      variables = each_map (moved_variable f) (VarInRange (form version)) m.variables (by m.variables k.variables low);
    }
  where
    by : (vs : List Variable) → EachIs (VarInRange (form m.version)) vs → EachIs (λ (v : Variable). f v.begin < half (form version).begin_bytes) vs → EachIs (λ (v : Variable). VarInRange (form version) (moved_variable f v)) vs
    by [] k l = tt
    by (v ∷ vs) k l =
        (record { name = k.0.name; rank = k.0.rank; ids = k.0.ids; attributes = (k.0.attributes.0, attrs-moved m.version version v.attributes k.0.attributes.1); code = k.0.code; vsize = k.0.vsize; begin = l.0 }, by vs k.1 l.1)

-- positions that move alike keep their order and their distance
pub moved_order : (old new a b : ℕ) → old ≤ a → old ≤ b → leb (moved old new a) (moved old new b) ≡ leb a b
moved_order old new a b h l = by (order a b)
  where
    by : (a ≤ b) ⊎ (b < a) → leb (moved old new a) (moved old new b) ≡ leb a b
    by (inl k) = le-leb (a - old + new) (b - old + new) (omega arith) ∙ sym (le-leb a b k)
    by (inr k) = lt-leb (a - old + new) (b - old + new) (omega arith) ∙ sym (lt-leb a b k)

moved-between : (old new a b : ℕ) → old ≤ a → moved old new b - moved old new a ≡ b - a
moved-between old new a b h = by (order old b)
  where
    by : (old ≤ b) ⊎ (b < old) → b - old + new - (a - old + new) ≡ b - a
    by (inl k) = omega arith
    by (inr k) = omega arith

min-moved : (old new a b : ℕ) → min (moved old new a) (moved old new b) ≡ moved old new (min a b)
min-moved old new a b = by (order a b)
  where
    by : (a ≤ b) ⊎ (b < a) → min (a - old + new) (b - old + new) ≡ min a b - old + new
    by (inl k) = omega arith
    by (inr k) = omega arith

min-low : (old new d x : ℕ) → x ≤ d → moved old new x ≤ d → min d (moved old new x) ≡ moved old new (min d x)
min-low old new d x a b = let m : min d x ≡ x = omega arith in let k : min d (x - old + new) ≡ x - old + new = omega arith in k ∙ ap (moved old new) (sym m)

-- the smallest of positions that move
module _ (p : ℕ → Bool) (d : ℕ) where
  none-smallest : (h : ℕ → ℕ) (n : ℕ) → any_below n p ≡ false → smallest p h d n ≡ d
  unfolding smallest
  none-smallest h zero e = refl
  none-smallest h (suc n) e =
      rw (none-at p (suc n) n e (omega arith)) (none-smallest h n (none-holds p n (λ k l. none-at p (suc n) k e (omega arith))))

  module _ (g : ℕ → ℕ) (old new : ℕ) where
    moved-smallest : (n : ℕ) → any_below n p ≡ true → ((i : ℕ) → i < n → (g i ≤ d) × (moved old new (g i) ≤ d)) → smallest p (λ i. moved old new (g i)) d n ≡ moved old new (smallest p g d n)
    unfolding smallest any_below
    moved-smallest zero e h = absurd (false≢true e)
    moved-smallest (suc n) e h = by (λ r. moved-smallest n r (λ i l. h i (omega arith))) (p n) (any_below n p) refl refl
      where
        by : (any_below n p ≡ true → smallest p (λ i. moved old new (g i)) d n ≡ moved old new (smallest p g d n)) → (b c : Bool) → p n ≡ b → any_below n p ≡ c
            → cond (p n) (min (smallest p (λ i. moved old new (g i)) d n) (moved old new (g n))) (smallest p (λ i. moved old new (g i)) d n) ≡ moved old new (cond (p n) (min (smallest p g d n) (g n)) (smallest p g d n))
        by ih true true q r =
            rw q (ap (λ (x : ℕ). min x (moved old new (g n))) (ih r) ∙ min-moved old new (smallest p g d n) (g n))
        by ih true false q r =
            let a = none-smallest (λ i. moved old new (g i)) n r in
            let b = none-smallest g n r in
            let k = h n (omega arith) in
            rw (q, a, b) (min-low old new d (g n) k.0 k.1)
        by ih false true q r = rw q (ih r)
        by ih false false q r = absurd (false≢true (sym (rw (q, r) refl) ∙ e))

smallest-above : (p : ℕ → Bool) (g : ℕ → ℕ) (d low n : ℕ) → low ≤ d → ((i : ℕ) → i < n → low ≤ g i) → low ≤ smallest p g d n
unfolding smallest
smallest-above p g d low zero h k = h
smallest-above p g d low (suc n) h k = by (p n) (smallest-above p g d low n h (λ i l. k i (omega arith))) (k n (omega arith))
  where
    by : (b : Bool) → low ≤ smallest p g d n → low ≤ g n → low ≤ cond b (min (smallest p g d n) (g n)) (smallest p g d n)
    by true a c = omega arith
    by false a c = a

-- the rules, of tables whose begins and size are moved
module _ (version : ℕ) (f : ℕ → ℕ) (s : List ℕ) (t : Tables) (full : FullRows t) (few : t.nvars ≤ 64) where
  pub inside-moved : rows_inside s t ≡ true → rows_inside s (moved_tables version f t) ≡ true
  unfolding rows_inside moved_tables
  inside-moved k =
      let a = both (leb t.ndims 32) _ k in
      let b = both (leb t.nvars 64) _ a.1 in
      let c = both (leb t.nattrs 128) _ b.1 in
      let d = both (leb t.globals t.nattrs) _ c.1 in
      let e = both (all_below t.ndims (dim_inside s t)) _ d.1 in
      let g = both (all_below t.nattrs (attr_inside s t)) (all_below t.nvars (var_inside s t)) e.1 in
      and a.0 (and b.0 (and c.0 (and d.0 (and e.0 (and g.0
      (all_hold (var_inside s (moved_tables version f t)) t.nvars (λ i l.
      ap (λ (v : Var). leb (v.name + v.chars) (length s) && (leb v.rank 8 && leb (v.first + v.attrs) t.nattrs)) (row_is version f t full few i l) ∙ holds_at (var_inside s t) t.nvars i g.1 l)))))))

  pub model-moved : model_holds s t ≡ true → model_holds s (moved_tables version f t) ≡ true
  unfolding model_holds names_hold one_unlimited moved_tables
  model-moved k =
      let u = moved_tables version f t in
      let a = both (names_hold s t) (one_unlimited t && ids_hold t) k in
      let b = both (one_unlimited t) (ids_hold t) a.1 in
      let c = both (distinct s (dim_names t) t.ndims) _ a.0 in
      let d = both (distinct s (var_names t) t.nvars) _ c.1 in
      let e = both (distinct s (attr_names t 0) t.globals) (all_below t.nvars (λ i. distinct s (attr_names t (var_at t i).first) (var_at t i).attrs)) d.1 in
      let names : distinct s (var_names u) t.nvars ≡ true = distinct-same s s (var_names u) (var_names t) t.nvars (λ i l. same_row (var_at u i) (var_at t i) (row_is version f t full few i l)) ∙ d.0 in
      let rows : all_below t.nvars (λ i. distinct s (attr_names t (var_at u i).first) (var_at u i).attrs) ≡ true =
      all_hold _ t.nvars (λ i l. ap (λ (v : Var). distinct s (attr_names t v.first) v.attrs) (row_is version f t full few i l) ∙ holds_at _ t.nvars i e.1 l) in
      and (and c.0 (and names (and e.0 rows))) (and b.0 (new-ids version f t full few b.1))
    where
      same_row : (v w : Var) → v ≡ moved_var f w → SameText s s (record { at = v.name; chars = v.chars }) (record { at = w.name; chars = w.chars })
      same_row v w e = record { chars = ap (λ (x : Var). x.chars) e; bytes = λ k l. ap (λ (x : Var). get_or s (x.name + k) 0) e }

-- the record count stays
module _ (version old new : ℕ) (t : Tables) (full : FullRows t) (few : t.nvars ≤ 64) (low : old ≤ t.size) (small : t.size ≤ max_position)
    (begins : (i : ℕ) → i < t.nvars → (old ≤ (var_at t i).begin) × ((var_at t i).begin ≤ max_position) × (moved old new (var_at t i).begin ≤ max_position)) where
  abbrev new-tables : Tables
  new-tables = moved_tables version (moved old new) t

  records-kept : (i : ℕ) → i < t.nvars → is_record t.dims (var_at new-tables i) ≡ is_record t.dims (var_at t i)
  unfolding is_record
  records-kept i l = ap (is_record t.dims) (row_is version (moved old new) t full few i l)

  any-kept : has_records new-tables ≡ has_records t
  unfolding has_records moved_tables
  any-kept = any_same (λ i. is_record t.dims (var_at new-tables i)) (λ i. is_record t.dims (var_at t i)) t.nvars records-kept

  first-moved : has_records t ≡ true → first_begin new-tables ≡ moved old new (first_begin t)
  unfolding has_records first_begin moved_tables
  first-moved e =
      smallest-same (λ i. is_record t.dims (var_at new-tables i)) (λ i. is_record t.dims (var_at t i)) (λ i. (var_at new-tables i).begin) (λ i. moved old new (var_at t i).begin) max_position t.nvars
      (λ i l. (records-kept i l, ap (λ (v : Var). v.begin) (row_is version (moved old new) t full few i l)))
      ∙ moved-smallest (λ i. is_record t.dims (var_at t i)) max_position (λ i. (var_at t i).begin) old new t.nvars e (λ i l. ((begins i l).1, (begins i l).2))

  first_above : old ≤ first_begin t
  unfolding first_begin
  first_above = smallest-above (λ i. is_record t.dims (var_at t i)) (λ i. (var_at t i).begin) max_position old t.nvars (omega arith) (λ i l. (begins i l).0)

  -- the count of an open file
  abbrev opened : ℕ → ℕ → ℕ → Step ℕ
  opened size first step = test (leb first size) (test (eqb ((size - first) % step) 0) (got ((size - first) / step) 0) (stop 13 0)) (stop 14 0)

  opened-moved : has_records t ≡ true → opened (moved old new t.size) (first_begin new-tables) (record_size new-tables) ≡ opened t.size (first_begin t) (record_size t)
  opened-moved e =
      let step = record_size t in
      let first = first_begin t in
      ap (λ (x : ℕ). opened (moved old new t.size) x (record_size new-tables)) (first-moved e)
      ∙ ap (opened (moved old new t.size) (moved old new first)) (record_is version (moved old new) t full few)
      ∙ ap (λ (c : Bool). test c (test (eqb ((moved old new t.size - moved old new first) % step) 0) (got ((moved old new t.size - moved old new first) / step) 0) (stop 13 0)) (stop 14 0)) (moved_order old new first t.size first_above low)
      ∙ ap (λ (d : ℕ). test (leb first t.size) (test (eqb (d % step) 0) (got (d / step) 0) (stop 13 0)) (stop 14 0)) (moved-between old new first t.size first_above)

  tail-moved : (b : Bool) → has_records t ≡ b
      → test (has_records new-tables) (opened (moved old new t.size) (first_begin new-tables) (record_size new-tables)) (got 0 0) ≡ test (has_records t) (opened t.size (first_begin t) (record_size t)) (got 0 0)
  unfolding test
  tail-moved true e = ap (λ (c : Bool). test c (opened (moved old new t.size) (first_begin new-tables) (record_size new-tables)) (got 0 0)) any-kept ∙ ap (λ (x : Step ℕ). test (has_records t) x (got 0 0)) (opened-moved e)
  tail-moved false e = ap (λ (c : Bool). test c (opened (moved old new t.size) (first_begin new-tables) (record_size new-tables)) (got 0 0)) (any-kept ∙ e) ∙ sym (ap (λ (c : Bool). test c (opened t.size (first_begin t) (record_size t)) (got 0 0)) e)

  pub count-moved : record_count new-tables ≡ record_count t
  unfolding record_count has_unlimited moved_tables
  count-moved = ap (λ (x : Step ℕ). test (any_below t.ndims (is_unlimited t)) (test (is_open t) x (got t.word 0)) (got 0 0)) (tail-moved (has_records t) refl)

-- a begin takes as many bytes wherever it lies
behind-same : (x y z : List ℕ) → length y ≡ length z → length (x ++ y) ≡ length (x ++ z)
behind-same x y z e = length-append x y ∙ ap (λ (n : ℕ). length x + n) e ∙ sym (length-append x z)

module _ (form' : Form) (f : ℕ → ℕ) where
  var-length : (v : Variable) → length (var_bytes form' (moved_variable f v)) ≡ length (var_bytes form' v)
  unfolding var_bytes
  var-length v =
      behind-same (name_bytes form' v.name) _ _ (
      behind-same (spelled form'.word_bytes (length v.ids)) _ _ (
      behind-same (each (spelled form'.word_bytes) v.ids) _ _ (
      behind-same (list_bytes form' 0x0C (attr_bytes form') v.attributes) _ _ (
      behind-same (spelled 4 v.code) _ _ (
      behind-same (spelled form'.word_bytes v.vsize) _ _ (
      length-spelled form'.begin_bytes (f v.begin) ∙ sym (length-spelled form'.begin_bytes v.begin)))))))

  vars-length : (vs : List Variable) → length (each (var_bytes form') (map (moved_variable f) vs)) ≡ length (each (var_bytes form') vs)
  unfolding each
  vars-length [] = refl
  vars-length (v ∷ vs) =
      let a = length-append (var_bytes form' (moved_variable f v)) (each (var_bytes form') (map (moved_variable f) vs)) in
      let b = length-append (var_bytes form' v) (each (var_bytes form') vs) in
      let c = var-length v in
      let d = vars-length vs in
      omega arith

  list_length : (vs : List Variable) → length (list_bytes form' 0x0B (var_bytes form') (map (moved_variable f) vs)) ≡ length (list_bytes form' 0x0B (var_bytes form') vs)
  unfolding list_bytes
  list_length [] = refl
  list_length (v ∷ vs) =
      let a = length-append (spelled form'.word_bytes (length (moved_variable f v ∷ map (moved_variable f) vs))) (each (var_bytes form') (moved_variable f v ∷ map (moved_variable f) vs)) in
      let b = length-append (spelled form'.word_bytes (length (v ∷ vs))) (each (var_bytes form') (v ∷ vs)) in
      let c = length-spelled form'.word_bytes (length (moved_variable f v ∷ map (moved_variable f) vs)) in
      let d = length-spelled form'.word_bytes (length (v ∷ vs)) in
      let e = vars-length (v ∷ vs) in
      ap (λ (n : ℕ). suc (suc (suc (suc n)))) (let q : length (spelled form'.word_bytes (length (moved_variable f v ∷ map (moved_variable f) vs)) ++ each (var_bytes form') (moved_variable f v ∷ map (moved_variable f) vs)) ≡ length (spelled form'.word_bytes (length (v ∷ vs)) ++ each (var_bytes form') (v ∷ vs)) = omega arith in q)

pub encode-length : (version : ℕ) (f : ℕ → ℕ) (m : Contents) → length (encode (moved_contents version f m)) ≡ length (encode (in_version version m))
unfolding encode
encode-length version f m =
    ap (λ (n : ℕ). suc (suc (suc (suc n)))) (
    behind-same (spelled (form version).word_bytes m.word) _ _ (
    behind-same (list_bytes (form version) 0x0A (dim_bytes (form version)) m.dimensions) _ _ (
    behind-same (list_bytes (form version) 0x0C (attr_bytes (form version)) m.globals) _ _ (
    list_length (form version) f m.variables))))

-- what holds of the begins of rows holds of those that are said
pub begins-said : (P : ℕ → Type 0) (s : List ℕ) (t : Tables) → t.nvars ≤ length t.vars → ((i : ℕ) → i < t.nvars → P (var_at t i).begin) → EachIs (λ (v : Variable). P v.begin) (to_write s t).variables
unfolding contents held
begins-said P s t h k =
    each_map (variable s) (λ (v : Variable). P v.begin) (map (item_of t.attrs) (take t.nvars t.vars))
    (each_map (item_of t.attrs) (λ (v : VarItem). P v.begin) (take t.nvars t.vars)
    (all_of (λ (v : Var). P v.begin) no_var (take t.nvars t.vars) (λ i l.
    let n = length-take-le t.nvars t.vars h in
    let q : i < t.nvars = omega arith in
    subst (λ (v : Var). P v.begin) (sym (get_or-take t.nvars t.vars i no_var q)) (k i q))))

-- what the tests say of the new tables, said of the old ones
module _ (version : ℕ) (f : ℕ → ℕ) (t : Tables) where
  pub moved-begin-small : FullRows t → t.nvars ≤ 64 → sizes_hold (moved_tables version f t) ≡ true → (i : ℕ) → i < t.nvars → f (var_at t i).begin ≤ max_position
  unfolding moved_tables
  moved-begin-small full few k i l = subst (λ (n : ℕ). n ≤ max_position) (ap (λ (v : Var). v.begin) (row_is version f t full few i l)) (begin-small (moved_tables version f t) k i l)

  pub moved-begin-fits : FullRows t → t.nvars ≤ 64 → (limit : ℕ) → all_below (moved_tables version f t).nvars (λ i. ltb (var_at (moved_tables version f t) i).begin limit) ≡ true
      → (i : ℕ) → i < t.nvars → f (var_at t i).begin < limit
  unfolding moved_tables
  moved-begin-fits full few limit k i l =
      subst (λ (n : ℕ). n < limit) (ap (λ (v : Var). v.begin) (row_is version f t full few i l)) (ltb-true _ _ (holds_at (λ j. ltb (var_at (moved_tables version f t) j).begin limit) t.nvars i k l))

  pub count_kept : (s : List ℕ) → record_count (moved_tables version f t) ≡ record_count t → count_holds s t ≡ true → count_holds s (moved_tables version f t) ≡ true
  unfolding moved_tables count_holds
  count_kept s e k = ap (λ (x : Step ℕ). eqb (number_of x) 0 && eqb (given_or 0 x) t.count) e ∙ k

pub size_above : (version old new n : ℕ) (t : Tables) → n ≡ new → n ≤ (moved_tables version (moved old new) t).size
unfolding moved_tables
size_above version old new n t e = omega arith
