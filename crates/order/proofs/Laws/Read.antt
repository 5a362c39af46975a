-- Tables that were read lie inside the bytes that they were read from.
use Prim.Native.Nat.{ℕ, zero, suc, ◌+◌, ◌≤◌, ◌<◌}
use native.Mathlib.Omega.{arith}
use mathlib.Core.Path.{◌≡◌, refl, sym, ap, subst, ◌∙◌}
use mathlib.Core.Bool.{true}
use mathlib.Core.List.{List, [], ◌∷◌, ◌++◌}
use lib.ListN.{length, get_or, length-append}
use borrow.Author.Tests.{le-leb}
use Rattle.cdf.proofs.Laws.Below.{all_hold}
use Rattle.grammar.specs.Tree.{Tree, VarItem, attrs_of}
use Rattle.grammar.specs.Tables.{padded, no_dim, no_attr, no_var, zero_var, var_row, var_rows, laid, dim_at, attr_at, var_at}
use Rattle.grammar.specs.Inner.Within.{Within}
use Rattle.grammar.proofs.Laws.Tables.{get_or-padded, length-rows}
use Rattle.rules.proofs.Laws.Views.{EachIs}
use Rattle.rules.proofs.Laws.Capacity.{DimHeld, AttrHeld, VarHeld, Held}
use Rattle.grammar.specs.declared.tables.Var.{Var}
use Rattle.order.specs.Inner.Rows.{FullRows}
use Rattle.order.specs.Writable.{dim_inside, attr_inside, var_inside, rows_inside}

-- lists of items that are so
each_at : {A : Type 0} (P : A → Type 0) (xs : List A) (d : A) → EachIs P xs → (i : ℕ) → i < length xs → P (get_or xs i d)
each_at P [] d k i h = absurd (omega arith)
each_at P (x ∷ xs) d k zero h = k.0
each_at P (x ∷ xs) d k (suc i) h = each_at P xs d k.1 i (omega arith)

each_both : {A : Type 0} (P : A → Type 0) (xs ys : List A) → EachIs P xs → EachIs P ys → EachIs P (xs ++ ys)
each_both P [] ys k l = l
each_both P (x ∷ xs) ys k l = (k.0, each_both P xs ys k.1 l)

attrs-held : (s : List ℕ) (vs : List VarItem) → EachIs (VarHeld s) vs → EachIs (AttrHeld s) (attrs_of vs)
unfolding attrs_of
attrs-held s [] k = tt
attrs-held s (v ∷ vs) k = each_both (AttrHeld s) v.attrs (attrs_of vs) k.0.attrs (attrs-held s vs k.1)

pub length-padded : {A : Type 0} (n : ℕ) (z : A) (xs : List A) → length (padded n z xs) ≡ n
unfolding padded
length-padded zero z xs = refl
length-padded (suc n) z [] = ap suc (length-padded n z [])
length-padded (suc n) z (x ∷ xs) = ap suc (length-padded n z xs)

-- the row of a variable: where its attributes end, and the rest as in the tree
abbrev pub no_item : VarItem
no_item = record { name = 0; chars = 0; ids = []; attrs = []; code = 0; vsize = 0; begin = 0 }

row_at : (first : ℕ) (vs : List VarItem) (i : ℕ) → i < length vs → (k : ℕ) × (get_or (var_rows first vs) i no_var ≡ var_row k (get_or vs i no_item)) × (k + length (get_or vs i no_item).attrs ≤ first + length (attrs_of vs))
unfolding var_rows attrs_of
row_at first [] i h = absurd (omega arith)
row_at first (v ∷ vs) zero h = (first, refl, let l = length-append v.attrs (attrs_of vs) in omega arith)
row_at first (v ∷ vs) (suc i) h =
    let r = row_at (first + length v.attrs) vs i (omega arith) in
    let l = length-append v.attrs (attrs_of vs) in
    (r.0, r.1, let q = r.2 in omega arith)

-- the rows of a tree that lies inside the bytes
module _ (s : List ℕ) (h : Tree) (k : Held s h) (w : Within (laid h)) where
  pub dim-row : (i : ℕ) → i < length h.dims → DimHeld s (dim_at (laid h) i)
  unfolding laid
  dim-row i l = subst (DimHeld s) (sym (get_or-padded 32 no_dim no_dim h.dims i l w.dims)) (each_at (DimHeld s) h.dims no_dim k.dims i l)

  pub attr-row : (i : ℕ) → i < length (h.globals ++ attrs_of h.vars) → AttrHeld s (attr_at (laid h) i)
  unfolding laid
  attr-row i l =
      subst (AttrHeld s) (sym (get_or-padded 128 no_attr no_attr (h.globals ++ attrs_of h.vars) i l w.attrs))
      (each_at (AttrHeld s) (h.globals ++ attrs_of h.vars) no_attr (each_both (AttrHeld s) h.globals (attrs_of h.vars) k.globals (attrs-held s h.vars k.vars)) i l)

  pub var-row : (i : ℕ) → i < length h.vars → (n : ℕ) × (var_at (laid h) i ≡ var_row n (get_or h.vars i no_item)) × (n + length (get_or h.vars i no_item).attrs ≤ length (h.globals ++ attrs_of h.vars)) × VarHeld s (get_or h.vars i no_item)
  unfolding laid
  var-row i l =
      let r = row_at (length h.globals) h.vars i l in
      let n = length-rows (length h.globals) h.vars in
      let m = length-append h.globals (attrs_of h.vars) in
      let few = w.vars in
      (r.0, get_or-padded 64 zero_var no_var (var_rows (length h.globals) h.vars) i (omega arith) (omega arith) ∙ r.1, (let q = r.2 in omega arith), each_at (VarHeld s) h.vars no_item k.vars i l)

  pub laid-inside : rows_inside s (laid h) ≡ true
  unfolding rows_inside laid
  laid-inside =
      let few = w.attrs in
      let all = length-append h.globals (attrs_of h.vars) in
      rw (
        le-leb (length h.dims) 32 w.dims,
        le-leb (length h.vars) 64 w.vars,
        le-leb (length (h.globals ++ attrs_of h.vars)) 128 w.attrs,
        le-leb (length h.globals) (length (h.globals ++ attrs_of h.vars)) (omega arith),
        all_hold (dim_inside s (laid h)) (length h.dims) (λ i l. le-leb _ _ (dim-row i l).inside),
        all_hold (attr_inside s (laid h)) (length (h.globals ++ attrs_of h.vars)) (λ i l. let a = attr-row i l in rw (le-leb _ (length s) a.name.inside, le-leb _ (length s) a.inside)),
        all_hold (var_inside s (laid h)) (length h.vars) (λ i l. var-inside i l),
      )
    where
      var-inside : (i : ℕ) → i < length h.vars → var_inside s (laid h) i ≡ true
      var-inside i l = let r = var-row i l in rw (r.1, le-leb _ (length s) r.3.name.inside, le-leb _ 8 r.3.rank, le-leb _ _ r.2)

  -- and they have as many rows as their type has
  pub laid-full : FullRows (laid h)
  unfolding laid
  laid-full =
      record {
        dims = length-padded 32 no_dim h.dims;
        attrs = length-padded 128 no_attr (h.globals ++ attrs_of h.vars);
        vars = length-padded 64 zero_var (var_rows (length h.globals) h.vars);
        ids = λ i l m. let r = var-row i l in ap (λ (v : Var). length v.ids) r.1 ∙ length-padded 8 0 (get_or h.vars i no_item).ids;
      }
