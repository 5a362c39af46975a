-- What tables say fits and is in range where their rows are; and so they are writable where the code's tests hold.
use Prim.Native.Nat.{ℕ, ◌+◌, ◌≤◌, ◌<◌}
use native.Mathlib.Omega.{arith}
use mathlib.Core.Path.{◌≡◌, refl, sym, subst, ◌∙◌}
use mathlib.Core.Bool.{Bool, true, false, ◌&&◌}
use mathlib.Core.List.{List, ◌++◌, map}
use lib.ListN.{length, take, length-append}
use lib.Dec.{leb}
use borrow.Author.Tests.{le-leb, leb-true}
use Rattle.cdf.specs.Below.{all_below}
use Rattle.cdf.specs.Form.{form}
use Rattle.cdf.specs.Magic.{both_versions, admits}
use Rattle.cdf.proofs.Laws.Below.{both}
use Rattle.grammar.specs.Tables.{max_dims, max_vars, max_attrs, no_var, dim_at, attr_at, var_at}
use Rattle.grammar.specs.Meaning.{attribute, variable, contents, item_of, held}
use Rattle.grammar.specs.declared.tables.Tables.{Tables}
use Rattle.grammar.specs.Inner.Within.{Within}
use Rattle.rules.specs.Capacity.{attributes_of, fits}
use Rattle.rules.specs.Range.{in_range}
use Rattle.rules.specs.Encode.{encode}
use Rattle.rules.proofs.Laws.Views.{IsShort, VarFits, Fits, fits-see, fits-tell, IsWord, DimInRange, AttrInRange, VarInRange, InRange, range-see, range-tell}
use Rattle.model.specs.Model.{names_hold, one_unlimited, ids_hold, model_holds}
use Rattle.sizes.specs.Records.{total, sizes_hold, ends_hold, max_position}
use Rattle.sizes.proofs.Laws.Records.{ids-below}
use Rattle.order.specs.Writable.{dim_inside, attr_inside, var_inside, rows_inside, to_write, count_holds, size_holds, writable}
use Rattle.order.specs.Inner.Lengths.{header_length}
use Rattle.order.specs.Inner.Tests.{open_tested, attr_tested, attrs_tested, dims_tested, vars_tested, attributes_upto, attributes_tested, counts_tested, dim_rows_tested, attr_rows_tested, var_rows_tested, count_tested, sizes_tested, size_tested, tested}
use Rattle.order.proofs.Laws.Chain.{ended, passed}
use Rattle.order.proofs.Laws.Inside.{Inside, inside}
use Rattle.order.specs.Inner.Rows.{FullRows}
use Rattle.order.proofs.Laws.Rows.{few-vars, dims-of, of-dims, dims-length, globals_of, of-globals, globals-length, variable_at, vars-of, of-vars, vars-length, ids-of, ids-length, attrs-of, of-attrs, attrs-length}
use Rattle.order.proofs.Laws.Words.{and, dim-see, dim-tell, attr-see, attr-tell, VarIs, var-see, var-tell, WordsAre, words-see, words-tell}
use Rattle.order.proofs.Laws.Lists.{attributes-length, sum-map, sum-take, total-same}
use Rattle.order.proofs.Laws.Lengths.{encoded-length}

module _ (s : List ℕ) (t : Tables) (full : FullRows t) (k : Inside s t) where
  -- the attributes over all lists
  attributes-all : length ((to_write s t).globals ++ attributes_of (to_write s t).variables) ≡ attributes_upto t t.nvars
  unfolding attributes_upto contents held
  attributes-all =
      let vs = map (item_of t.attrs) (take t.nvars t.vars) in
      let a = length-append (to_write s t).globals (attributes_of (map (variable s) vs)) in
      let g = globals-length s t full k in
      let v : length (attributes_of (map (variable s) vs)) ≡ total (λ i. (var_at t i).attrs) t.nvars =
      attributes-length (map (variable s) vs)
      ∙ sum-map _ (variable s) vs
      ∙ sum-map _ (item_of t.attrs) (take t.nvars t.vars)
      ∙ sum-take _ no_var t.vars t.nvars (few-vars s t full k)
      ∙ total-same _ _ t.nvars (λ i l. attrs-length s t full k i l) in
      omega arith

  attr-row : (i j : ℕ) → i < t.nvars → j < (var_at t i).attrs → (var_at t i).first + j < t.nattrs
  attr-row i j l h = omega (arith, k.counted.spans i l)

  global-row : (i : ℕ) → i < t.globals → i < t.nattrs
  global-row i l = omega (arith, k.counted.globals)

  said-see : Fits (to_write s t) → InRange (to_write s t) → WordsAre s t
  unfolding contents held
  said-see x y =
      let f = form t.version in
      record {
        version = y.version;
        word = y.word;
        dims = λ i l. dim-see s t.version (dim_at t i) (k.dims i l) (of-dims s t full k (λ d. IsShort d.name) x.dim_names i l) (of-dims s t full k (DimInRange f) y.dimensions i l);
        globals = λ i l.
            attr-see s t.version (attr_at t i) (k.attrs i (global-row i l)) (of-globals s t full k (λ a. IsShort a.name) x.global_names i l) (of-globals s t full k (AttrInRange f) y.globals.1 i l);
        vars = λ i l.
            let w = of-vars s t full k VarFits x.variables i l in
            let r = of-vars s t full k (VarInRange f) y.variables i l in
            var-see s t.version t.attrs (var_at t i) (k.vars i l) (record { short = w.name; name = r.name; code = r.code; vsize = r.vsize; begin = r.begin });
        attrs = λ i l j h.
            let w = of-vars s t full k VarFits x.variables i l in
            let r = of-vars s t full k (VarInRange f) y.variables i l in
            attr-see s t.version (attr_at t ((var_at t i).first + j)) (k.attrs _ (attr-row i j l h))
            (of-attrs s t full k i l (λ a. IsShort a.name) w.attributes j h) (of-attrs s t full k i l (AttrInRange f) r.attributes.1 j h);
      }

  module _ (w : WordsAre s t) where
    attr-is : (i : ℕ) → i < t.nattrs → attr_tested s (attr_at t i) ≡ true → IsShort (attribute s (attr_at t i)).name × AttrInRange (form t.version) (attribute s (attr_at t i))
    attr-is i l e = attr-tell s t.version (attr_at t i) (k.attrs i l) (k.values i l) e

    var-is : (i : ℕ) → i < t.nvars → VarIs s t.version (variable_at s t full k i)
    var-is i l = var-tell s t.version t.attrs (var_at t i) (k.vars i l) (w.vars i l)

    said_fits : attributes_upto t t.nvars ≤ 128 → Fits (to_write s t)
    said_fits few =
        let d = dims-length s t full k in
        let v = vars-length s t full k in
        let a = attributes-all in
        record {
          dims = omega (arith, k.counted.dims);
          vars = omega (arith, k.counted.vars);
          attrs = omega arith;
          dim_names = dims-of s t full k _ (λ i l. (dim-tell s t.version (dim_at t i) (k.dims i l) (w.dims i l)).0);
          global_names = globals_of s t full k _ (λ i l. (attr-is i (global-row i l) (w.globals i l)).0);
          variables = vars-of s t full k VarFits
              (λ i l.
              record {
                name = (var-is i l).short;
                rank = let e = ids-length s t full k i l in omega (arith, k.ranks i l);
                attributes = attrs-of s t full k i l _ (λ j h. (attr-is _ (attr-row i j l h) (w.attrs i l j h)).0);
              });
        }

    said-range : ids_hold t ≡ true → InRange (to_write s t)
    unfolding contents held
    said-range ids =
        let f = form t.version in
        let d = dims-length s t full k in
        let v = vars-length s t full k in
        let g = globals-length s t full k in
        record {
          version = w.version;
          word = w.word;
          dims = omega (arith, k.counted.dims);
          dimensions = dims-of s t full k (DimInRange f) (λ i l. (dim-tell s t.version (dim_at t i) (k.dims i l) (w.dims i l)).1);
          globals = (omega (arith, k.counted.attrs, k.counted.globals), globals_of s t full k (AttrInRange f) (λ i l. (attr-is i (global-row i l) (w.globals i l)).1));
          vars = omega (arith, k.counted.vars);
          variables = vars-of s t full k (VarInRange f)
              (λ i l.
              let n = ids-length s t full k i l in
              let m = attrs-length s t full k i l in
              record {
                name = (var-is i l).name;
                rank = omega (arith, k.ranks i l);
                ids = ids-of s t full k i l (IsWord f) (λ j h. let b = ids-below t ids i l k.counted.dims j h in omega arith);
                attributes = (omega (arith, k.counted.spans i l, k.counted.attrs), attrs-of s t full k i l (AttrInRange f) (λ j h. (attr-is _ (attr-row i j l h) (w.attrs i l j h)).1));
                code = (var-is i l).code;
                vsize = (var-is i l).vsize;
                begin = (var-is i l).begin;
              });
        }

-- two tests are the same where each holds with the other
alike : (a b : Bool) → (a ≡ true → b ≡ true) → (b ≡ true → a ≡ true) → a ≡ b
alike true b h l = sym (h refl)
alike false true h l = l refl
alike false false h l = refl

-- the counts within the tables
pub counts-see : (t : Tables) → counts_tested t ≡ true → (t.ndims ≤ max_dims) × (t.nvars ≤ max_vars) × (t.nattrs ≤ max_attrs) × (t.globals ≤ t.nattrs)
unfolding counts_tested
counts-see t e =
    let a = both (leb t.ndims max_dims) _ e in
    let b = both (leb t.nvars max_vars) _ a.1 in
    let c = both (leb t.nattrs max_attrs) _ b.1 in
    let d = both (leb t.globals t.nattrs) _ c.1 in
    (leb-true _ _ a.0, leb-true _ _ b.0, leb-true _ _ c.0, leb-true _ _ d.0)

-- all attributes inside the text
pub attrs-see : (s : List ℕ) (t : Tables) → attr_rows_tested s t ≡ true → all_below t.nattrs (attr_inside s t) ≡ true
unfolding attr_rows_tested
attrs-see s t e = (both (all_below t.nattrs (attr_inside s t)) _ e).0

-- what the tests of the counts and of the rows say together
pub record RowsAre (s : List ℕ) (t : Tables) : Type 0 where
  pub rows : rows_inside s t ≡ true
  pub words : WordsAre s t
  pub few : attributes_upto t t.nvars ≤ 128

module _ (s : List ℕ) (t : Tables) where
  pub rows-see : counts_tested t ≡ true → dim_rows_tested s t ≡ true → attr_rows_tested s t ≡ true → var_rows_tested s t ≡ true → RowsAre s t
  unfolding counts_tested dim_rows_tested attr_rows_tested var_rows_tested rows_inside
  rows-see counts dims attrs vars =
      let a = both (leb t.ndims max_dims) _ counts in
      let b = both (leb t.nvars max_vars) _ a.1 in
      let c = both (leb t.nattrs max_attrs) _ b.1 in
      let d = both (leb t.globals t.nattrs) _ c.1 in
      let e = both (admits both_versions t.version) (open_tested t.word) d.1 in
      let f = both (all_below t.ndims (dim_inside s t)) (dims_tested s t) dims in
      let g = both (all_below t.nattrs (attr_inside s t)) (attrs_tested s t.attrs 0 t.globals) attrs in
      let h = both (all_below t.nvars (var_inside s t)) (vars_tested s t && attributes_tested t) vars in
      let i = both (vars_tested s t) (attributes_tested t) h.1 in
      record {
        rows = and a.0 (and b.0 (and c.0 (and d.0 (and f.0 (and g.0 h.0)))));
        words = words-see s t (e.0, e.1, f.1, g.1, i.0);
        few = leb-true _ _ i.1;
      }

  pub rows_tell : RowsAre s t → (counts_tested t ≡ true) × (dim_rows_tested s t ≡ true) × (attr_rows_tested s t ≡ true) × (var_rows_tested s t ≡ true)
  unfolding counts_tested dim_rows_tested attr_rows_tested var_rows_tested rows_inside
  rows_tell k =
      let a = both (leb t.ndims max_dims) _ k.rows in
      let b = both (leb t.nvars max_vars) _ a.1 in
      let c = both (leb t.nattrs max_attrs) _ b.1 in
      let d = both (leb t.globals t.nattrs) _ c.1 in
      let e = both (all_below t.ndims (dim_inside s t)) _ d.1 in
      let f = both (all_below t.nattrs (attr_inside s t)) (all_below t.nvars (var_inside s t)) e.1 in
      let w = words-tell s t k.words in (
        and a.0 (and b.0 (and c.0 (and d.0 (and w.0 w.1)))),
        and e.0 w.2,
        and f.0 w.3,
        and f.1 (and w.4 (le-leb (attributes_upto t t.nvars) 128 k.few)),
      )

-- the rows of tables that are tested
pub tested-rows : (s : List ℕ) (t : Tables) → tested s t ≡ true → RowsAre s t
unfolding tested
tested-rows s t e =
    let a = both (counts_tested t) _ e in
    let b = both (dim_rows_tested s t) _ a.1 in
    let c = both (attr_rows_tested s t) _ b.1 in
    let d = both (var_rows_tested s t) (model_holds s t && sizes_tested t) c.1 in
    rows-see s t a.0 b.0 c.0 d.0

module _ (s : List ℕ) (t : Tables) (full : FullRows t) where
  tested-if : writable s t ≡ true → (tested s t && size_tested t) ≡ true
  unfolding writable tested count_holds count_tested sizes_tested size_holds
  tested-if e =
      let a = both (rows_inside s t) _ e in
      let b = both (fits (to_write s t)) _ a.1 in
      let c = both (in_range (to_write s t)) _ b.1 in
      let d = both (model_holds s t) _ c.1 in
      let f = both (sizes_hold t) _ d.1 in
      let g = both (count_holds s t) _ f.1 in
      let h = both (ends_hold t t.count) (size_holds s t) g.1 in
      let i = both (leb (length (encode (to_write s t))) t.size) (leb t.size max_position) h.1 in
      let k = inside a.0 in
      let x = fits-see (to_write s t) b.0 in
      let y = range-see (to_write s t) c.0 in
      let few : attributes_upto t t.nvars ≤ 128 = subst (λ (n : ℕ). n ≤ 128) (attributes-all s t full k) x.attrs in
      let size : leb (header_length t) t.size ≡ true = subst (λ (n : ℕ). leb n t.size ≡ true) (encoded-length s t full k) i.0 in
      let r = rows_tell s t (record { rows = a.0; words = said-see s t full k x y; few = few }) in
      and
      (and r.0
      (and r.1
      (and r.2
      (and r.3
      (and d.0
      (and f.0 (and g.0 h.0)))))))
      (and size i.1)

  tested-only : (tested s t && size_tested t) ≡ true → writable s t ≡ true
  unfolding writable tested count_holds count_tested sizes_tested size_holds model_holds
  tested-only e =
      let f = both (tested s t) (size_tested t) e in
      let r = tested-rows s t f.0 in
      let a = both (counts_tested t) _ f.0 in
      let b = both (dim_rows_tested s t) _ a.1 in
      let c = both (attr_rows_tested s t) _ b.1 in
      let v = both (var_rows_tested s t) (model_holds s t && sizes_tested t) c.1 in
      let d = both (model_holds s t) (sizes_tested t) v.1 in
      let g = both (sizes_hold t) (count_tested t && ends_hold t t.count) d.1 in
      let h = both (count_tested t) (ends_hold t t.count) g.1 in
      let i = both (leb (header_length t) t.size) (leb t.size max_position) f.1 in
      let m = both (names_hold s t) (one_unlimited t && ids_hold t) d.0 in
      let n = both (one_unlimited t) (ids_hold t) m.1 in
      let k = inside r.rows in
      let size : leb (length (encode (to_write s t))) t.size ≡ true = subst (λ (n : ℕ). leb n t.size ≡ true) (sym (encoded-length s t full k)) i.0 in
      and r.rows
      (and (fits-tell (to_write s t) (said_fits s t full k r.words r.few))
      (and (range-tell (to_write s t) (said-range s t full k r.words n.1))
      (and d.0
      (and g.0
      (and h.0
      (and h.1
      (and size i.1)))))))

  -- the code's tests are those of the definition
  pub tested-is : (tested s t && size_tested t) ≡ writable s t
  tested-is = alike (tested s t && size_tested t) (writable s t) tested-only tested-if

  pub writable-not : tested s t ≡ false → false ≡ writable s t
  writable-not e = ended (size_tested t) e ∙ tested-is

  pub writable-by : {r : Bool} → tested s t ≡ true → r ≡ size_tested t → r ≡ writable s t
  writable-by e f = passed e f ∙ tested-is

-- what the tests give to those after them
pub within : (s : List ℕ) (t : Tables) → RowsAre s t → Within t
within s t r =
    let k = inside r.rows in
    record {
      dims = k.counted.dims;
      attrs = k.counted.attrs;
      globals = omega (arith, k.counted.globals, k.counted.attrs);
      vars = k.counted.vars;
      rows = λ i l.
          let v = var-tell s t.version t.attrs (var_at t i) (k.vars i l) (r.words.vars i l) in
          record { rank = k.ranks i l; span = omega (arith, k.counted.spans i l, k.counted.attrs); low = v.code.0; high = v.code.1 };
    }

pub model-ids : (s : List ℕ) (t : Tables) → model_holds s t ≡ true → ids_hold t ≡ true
unfolding model_holds
model-ids s t e = (both (one_unlimited t) (ids_hold t) (both (names_hold s t) (one_unlimited t && ids_hold t) e).1).1
