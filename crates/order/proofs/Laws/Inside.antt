-- What tables are whose rows lie inside.
use Prim.Native.Nat.{ℕ, ◌+◌, ◌*◌, ◌≤◌, ◌<◌}
use mathlib.Core.Path.{◌≡◌}
use mathlib.Core.Bool.{true}
use mathlib.Core.List.{List}
use lib.ListN.{length}
use lib.Dec.{leb}
use borrow.Author.Tests.{leb-true}
use Rattle.cdf.specs.Below.{all_below}
use Rattle.cdf.proofs.Laws.Below.{both, holds_at}
use Rattle.items.specs.Types.{size_of}
use Rattle.grammar.specs.Tables.{max_dims, max_vars, max_attrs, max_rank, dim_at, attr_at, var_at}
use Rattle.grammar.specs.declared.tables.Attr.{Attr}
use Rattle.grammar.specs.declared.tables.Var.{Var}
use Rattle.grammar.specs.declared.tables.Tables.{Tables}
use Rattle.order.specs.Writable.{dim_inside, attr_inside, var_inside, rows_inside}
use Rattle.order.specs.Inner.Lengths.{CountsHold}
use Rattle.order.specs.Inner.Tests.{attr_row_inside, var_row_inside}

pub record Inside (s : List ℕ) (t : Tables) : Type 0 where
  pub counted : CountsHold t
  pub dims : (i : ℕ) → i < t.ndims → (dim_at t i).name + (dim_at t i).chars ≤ length s
  pub attrs : (i : ℕ) → i < t.nattrs → (attr_at t i).name + (attr_at t i).chars ≤ length s
  pub values : (i : ℕ) → i < t.nattrs → (attr_at t i).values + (attr_at t i).count * size_of (attr_at t i).code ≤ length s
  pub vars : (i : ℕ) → i < t.nvars → (var_at t i).name + (var_at t i).chars ≤ length s
  pub ranks : (i : ℕ) → i < t.nvars → (var_at t i).rank ≤ max_rank

-- a row inside
pub attr-row : (s : List ℕ) (a : Attr) → attr_row_inside s a ≡ true → (a.name + a.chars ≤ length s) × (a.values + a.count * size_of a.code ≤ length s)
attr-row s a e =
    let b = both (leb (a.name + a.chars) (length s)) (leb (a.values + a.count * size_of a.code) (length s)) e in
    (leb-true _ _ b.0, leb-true _ _ b.1)

pub var-row : (s : List ℕ) (n : ℕ) (v : Var) → var_row_inside s n v ≡ true → (v.name + v.chars ≤ length s) × (v.rank ≤ max_rank) × (v.first + v.attrs ≤ n)
var-row s n v e =
    let a = both (leb (v.name + v.chars) (length s)) _ e in
    let b = both (leb v.rank max_rank) (leb (v.first + v.attrs) n) a.1 in
    (leb-true _ _ a.0, leb-true _ _ b.0, leb-true _ _ b.1)

-- the names of attributes that are all inside
pub attr-rows : (s : List ℕ) (t : Tables) → all_below t.nattrs (attr_inside s t) ≡ true → (i : ℕ) → i < t.nattrs → (attr_at t i).name + (attr_at t i).chars ≤ length s
attr-rows s t e i l = (attr-row s (attr_at t i) (holds_at (attr_inside s t) t.nattrs i e l)).0

module _ {s : List ℕ} {t : Tables} where
  pub inside : rows_inside s t ≡ true → Inside s t
  unfolding rows_inside
  inside e =
      let a = both (leb t.ndims max_dims) _ e in
      let b = both (leb t.nvars max_vars) _ a.1 in
      let d = both (leb t.nattrs max_attrs) _ b.1 in
      let f = both (leb t.globals t.nattrs) _ d.1 in
      let g = both (all_below t.ndims (dim_inside s t)) _ f.1 in
      let h = both (all_below t.nattrs (attr_inside s t)) (all_below t.nvars (var_inside s t)) g.1 in
      record {
        counted =
            record {
              dims = leb-true _ _ a.0;
              vars = leb-true _ _ b.0;
              attrs = leb-true _ _ d.0;
              globals = leb-true _ _ f.0;
              spans = λ i l. (var h.1 i l).2;
            };
        dims = λ i l. leb-true _ _ (holds_at (dim_inside s t) t.ndims i g.0 l);
        attrs = λ i l. (attr h.0 i l).0;
        values = λ i l. (attr h.0 i l).1;
        vars = λ i l. (var h.1 i l).0;
        ranks = λ i l. (var h.1 i l).1;
      }
    where
      attr : all_below t.nattrs (attr_inside s t) ≡ true → (i : ℕ) → i < t.nattrs
          → ((attr_at t i).name + (attr_at t i).chars ≤ length s) × ((attr_at t i).values + (attr_at t i).count * size_of (attr_at t i).code ≤ length s)
      attr e i l = attr-row s (attr_at t i) (holds_at (attr_inside s t) t.nattrs i e l)

      var : all_below t.nvars (var_inside s t) ≡ true → (i : ℕ) → i < t.nvars
          → ((var_at t i).name + (var_at t i).chars ≤ length s) × ((var_at t i).rank ≤ max_rank) × ((var_at t i).first + (var_at t i).attrs ≤ t.nattrs)
      var e i l = var-row s t.nattrs (var_at t i) (holds_at (var_inside s t) t.nvars i e l)
