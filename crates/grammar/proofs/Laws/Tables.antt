-- Tables while rows are added: each new row is one of the tree that they lay out.
use Prim.Native.Nat.{ℕ, zero, suc, ◌+◌, ◌≤◌, ◌<◌}
use native.Mathlib.Omega.{arith}
use native.Mathlib.Nat.{add-zero, zero-add}
use mathlib.Core.Path.{◌≡◌, refl, ap, sym, ◌∙◌}
use mathlib.Core.List.{List, [], ◌∷◌, ◌++◌, append-nil, append_assoc}
use lib.ListN.{length, get_or, set, length-append}
use Rattle.grammar.specs.Tables.{padded, var_row, var_rows, zero_var, no_dim, no_attr, laid}
use Rattle.grammar.specs.Inner.Parts.{started, placed, more_dims, more_attrs, more_globals, more_rows, more_vars}
use Rattle.grammar.specs.Tree.{VarItem, tree, attrs_of}
use Rattle.grammar.specs.declared.tables.Dim.{Dim}
use Rattle.grammar.specs.declared.tables.Attr.{Attr}
use Rattle.grammar.specs.declared.tables.Var.{Var}
use Rattle.grammar.specs.declared.tables.Tables.{Tables}

pub padded-more : {A : Type 0} (n : ℕ) (z x : A) (xs : List A) → set (padded n z xs) (length xs) x ≡ padded n z (xs ++ (x ∷ []))
unfolding padded
padded-more zero z x xs = refl
padded-more (suc n) z x [] = refl
padded-more {A = A} (suc n) z x (y ∷ ys) = ap {B = List A} (λ r. y ∷ r) (padded-more n z x ys)

pub get_or-padded : {A : Type 0} (n : ℕ) (z d : A) (xs : List A) (i : ℕ) → i < length xs → length xs ≤ n → get_or (padded n z xs) i d ≡ get_or xs i d
unfolding padded
get_or-padded n z d [] i h l = absurd (omega arith)
get_or-padded zero z d (x ∷ xs) i h l = absurd (omega arith)
get_or-padded (suc n) z d (x ∷ xs) zero h l = refl
get_or-padded (suc n) z d (x ∷ xs) (suc i) h l = get_or-padded n z d xs i (omega arith) (omega arith)

pub length_more : {A : Type 0} (xs : List A) (x : A) → length (xs ++ (x ∷ [])) ≡ length xs + 1
length_more xs x = length-append xs (x ∷ [])

pub length-rows : (first : ℕ) (vs : List VarItem) → length (var_rows first vs) ≡ length vs
unfolding var_rows
length-rows first [] = refl
length-rows first (x ∷ vs) = ap suc (length-rows (first + length x.attrs) vs)

pub attrs_of-more : (vs : List VarItem) (x : VarItem) → attrs_of (vs ++ (x ∷ [])) ≡ attrs_of vs ++ x.attrs
unfolding attrs_of
attrs_of-more [] x = append-nil x.attrs
attrs_of-more (y ∷ vs) x = ap (λ (r : List Attr). y.attrs ++ r) (attrs_of-more vs x) ∙ sym (append_assoc y.attrs (attrs_of vs) x.attrs)

pub rows_more : (first : ℕ) (vs : List VarItem) (x : VarItem) → var_rows first (vs ++ (x ∷ [])) ≡ var_rows first vs ++ (var_row (first + length (attrs_of vs)) x ∷ [])
unfolding var_rows attrs_of
rows_more first [] x = ap (λ (k : ℕ). var_row k x ∷ []) (let e : first ≡ first + 0 = omega arith in e)
rows_more first (y ∷ vs) x =
    let e : first + length y.attrs + length (attrs_of vs) ≡ first + length (y.attrs ++ attrs_of vs) = let l = length-append y.attrs (attrs_of vs) in omega arith in
    ap (λ (r : List Var). var_row first y ∷ r) (rows_more (first + length y.attrs) vs x ∙ ap (λ (k : ℕ). var_rows (first + length y.attrs) vs ++ (var_row k x ∷ [])) e)

-- rows written over others, and then more; and over rows that are zero
module _ {A : Type 0} where
  pub placed-append : (rows : List A) (i : ℕ) (xs ys : List A) → placed (placed rows i xs) (i + length xs) ys ≡ placed rows i (xs ++ ys)
  unfolding placed
  placed-append rows i [] ys = ap (λ (k : ℕ). placed rows k ys) (add-zero i)
  placed-append rows i (x ∷ xs) ys =
      let e : i + length (x ∷ xs) ≡ i + 1 + length xs = omega arith in
      ap (λ (k : ℕ). placed (placed (set rows i x) (i + 1) xs) k ys) e ∙ placed-append (set rows i x) (i + 1) xs ys

  pub placed-padded : (n : ℕ) (z : A) (xs ys : List A) → placed (padded n z xs) (length xs) ys ≡ padded n z (xs ++ ys)
  unfolding placed
  placed-padded n z xs [] = ap (padded n z) (sym (append-nil xs))
  placed-padded n z xs (y ∷ ys) =
      rw (padded-more n z y xs, ← length_more xs y) (placed-padded n z (xs ++ (y ∷ [])) ys ∙ ap (padded n z) (append_assoc xs (y ∷ []) ys))

-- tables with more rows, and then more
module _ (t : Tables) where
  pub dims-none : t ≡ more_dims t []
  unfolding more_dims placed
  dims-none = rw (add-zero t.ndims)

  pub dims-append : (xs ys : List Dim) → more_dims (more_dims t xs) ys ≡ more_dims t (xs ++ ys)
  unfolding more_dims
  dims-append xs ys = let e : t.ndims + length xs + length ys ≡ t.ndims + length (xs ++ ys) = omega (arith, length-append xs ys) in rw (e, placed-append t.dims t.ndims xs ys)

  pub attrs-none : t ≡ more_attrs t []
  unfolding more_attrs placed
  attrs-none = rw (add-zero t.nattrs)

  pub attrs-append : (xs ys : List Attr) → more_attrs (more_attrs t xs) ys ≡ more_attrs t (xs ++ ys)
  unfolding more_attrs
  attrs-append xs ys = let e : t.nattrs + length xs + length ys ≡ t.nattrs + length (xs ++ ys) = omega (arith, length-append xs ys) in rw (e, placed-append t.attrs t.nattrs xs ys)

  pub vars-none : t ≡ more_vars t []
  unfolding more_vars more_rows more_attrs placed attrs_of var_rows
  vars-none = rw (add-zero t.nattrs, add-zero t.nvars)

  pub vars-append : (vs : List VarItem) (x : VarItem) → more_vars (more_vars t vs) (x ∷ []) ≡ more_vars t (vs ++ (x ∷ []))
  unfolding more_vars more_rows more_attrs attrs_of var_rows
  vars-append vs x =
      let old = attrs_of vs in
      let rows = var_rows t.nattrs vs in
      let a : attrs_of (vs ++ (x ∷ [])) ≡ old ++ (x.attrs ++ []) = attrs_of-more vs x ∙ ap (λ (r : List Attr). old ++ r) (sym (append-nil x.attrs)) in
      let n : t.nattrs + length old + length (x.attrs ++ []) ≡ t.nattrs + length (old ++ (x.attrs ++ [])) = omega (arith, length-append old (x.attrs ++ [])) in
      let m : t.nvars + length rows + 1 ≡ t.nvars + length (rows ++ (var_row (t.nattrs + length old) x ∷ [])) = omega (arith, length_more rows (var_row (t.nattrs + length old) x)) in
      rw (a, rows_more t.nattrs vs x, n, placed-append t.attrs t.nattrs old (x.attrs ++ []), m, placed-append t.vars t.nvars rows (var_row (t.nattrs + length old) x ∷ []))

  -- their numbers
  pub vars-count : {u : Tables} (vs : List VarItem) → u ≡ more_vars t vs → (u.nattrs ≡ t.nattrs + length (attrs_of vs)) × (u.nvars ≡ t.nvars + length vs)
  unfolding more_vars more_rows more_attrs
  vars-count vs e = (ap (λ (u : Tables). u.nattrs) e, ap (λ (u : Tables). u.nvars) e ∙ ap (λ (n : ℕ). t.nvars + n) (length-rows t.nattrs vs))

  -- a variable by its attributes and its row
  pub var-more : {u : Tables} {ids : List ℕ} {rank n : ℕ} (x : VarItem) → u ≡ more_attrs t x.attrs → ids ≡ padded 8 0 x.ids → length x.ids ≡ rank → length x.attrs ≡ n
      → more_rows u (record { name = x.name; chars = x.chars; ids = ids; rank = rank; first = t.nattrs; attrs = n; code = x.code; vsize = x.vsize; begin = x.begin } ∷ []) ≡ more_vars t (x ∷ [])
  unfolding more_vars attrs_of var_rows
  var-more x e f m n = rw (e, f, ← m, ← n) (ap (λ (r : List Attr). more_rows (more_attrs t r) (var_row t.nattrs x ∷ [])) (sym (append-nil x.attrs)))

-- the numbers of rows before a list is read
module _ {t : Tables} (v w z : ℕ) (e : t ≡ started v w z) where
  pub started-counts : t.ndims ≡ 0
  unfolding started laid
  started-counts = ap (λ (x : Tables). x.ndims) e

  module _ {u : Tables} (ds : List Dim) (f : u ≡ more_dims t ds) where
    pub dims-counts : u.nattrs ≡ 0
    unfolding started laid more_dims attrs_of
    dims-counts = ap (λ (x : Tables). x.nattrs) f ∙ ap (λ (x : Tables). x.nattrs) e

    pub globals-counts : {r : Tables} (gs : List Attr) → r ≡ more_globals u gs → (r.nattrs ≡ length gs) × (r.nvars ≡ 0)
    unfolding started laid more_dims more_globals
    globals-counts gs g =
        let a = ap (λ (x : Tables). x.nattrs) g in
        let b = ap (λ (x : Tables). x.nvars) g ∙ ap (λ (x : Tables). x.nvars) f ∙ ap (λ (x : Tables). x.nvars) e in
        (omega (arith, dims-counts), b)

-- the tables of a tree, list by list
laid-more : (v w z : ℕ) (ds : List Dim) (gs : List Attr) (vs : List VarItem) → more_vars (more_globals (more_dims (started v w z) ds) gs) vs ≡ laid (tree v w z ds gs vs)
unfolding more_vars more_globals more_rows more_attrs more_dims started laid attrs_of var_rows
laid-more v w z ds gs vs =
    rw (zero-add (length ds), zero-add (length gs), zero-add (length (var_rows (length gs) vs)), placed-padded 32 no_dim [] ds, placed-padded 128 no_attr [] gs, placed-padded 128 no_attr gs (attrs_of vs), placed-padded 64 zero_var [] (var_rows (length gs) vs), length-append gs (attrs_of vs), length-rows (length gs) vs)

pub lists-laid : {t u r x : Tables} (v w z : ℕ) (ds : List Dim) (gs : List Attr) (vs : List VarItem) → t ≡ started v w z → u ≡ more_dims t ds → r ≡ more_globals u gs → x ≡ more_vars r vs → x ≡ laid (tree v w z ds gs vs)
lists-laid v w z ds gs vs e f g h = rw (h, g, f, e) (laid-more v w z ds gs vs)
