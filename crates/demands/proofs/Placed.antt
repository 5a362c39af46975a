-- Tables whose rows and names are where they say, and two of them that say the same.
use Prim.Native.Nat.{ℕ, zero, suc, ◌+◌, ◌≤◌, ◌<◌}
use native.Mathlib.Omega.{arith}
use mathlib.Core.Path.{◌≡◌, refl, sym, ap, ◌∙◌}
use mathlib.Core.List.{List, [], ◌∷◌, map}
use lib.ListN.{length, get_or, take, drop, length-map, length-drop}
use lib.Seq.{get_or-take, get_or-drop, length-take-le}
use Rattle.items.specs.Name.{part}
use Rattle.grammar.specs.Tree.{VarItem}
use Rattle.grammar.specs.Tables.{no_dim, no_attr, no_var, dim_at, attr_at, var_at}
use Rattle.grammar.specs.Meaning.{Dimension, Attribute, Variable, Contents, dimension, attribute, variable, contents, item_of, held, said}
use Rattle.grammar.specs.declared.tables.Var.{Var}
use Rattle.grammar.specs.declared.tables.Tables.{Tables}
use Rattle.demands.proofs.Alike.{SameText, AlikeVar, Alike}

pub record PlacedVar (s : List ℕ) (t : Tables) (v : Var) : Type 0 where
  pub name : v.name + v.chars ≤ length s
  pub rank : v.rank ≤ length v.ids
  pub span : v.first + v.attrs ≤ length t.attrs
  pub rows : (j : ℕ) → j < v.attrs → (attr_at t (v.first + j)).name + (attr_at t (v.first + j)).chars ≤ length s

pub record Placed (s : List ℕ) (t : Tables) : Type 0 where
  pub ndims : t.ndims ≤ length t.dims
  pub dims : (i : ℕ) → i < t.ndims → (dim_at t i).name + (dim_at t i).chars ≤ length s
  pub nglobals : t.globals ≤ length t.attrs
  pub globals : (i : ℕ) → i < t.globals → (attr_at t i).name + (attr_at t i).chars ≤ length s
  pub nvars : t.nvars ≤ length t.vars
  pub vars : (i : ℕ) → i < t.nvars → PlacedVar s t (var_at t i)

-- what stands at a place of lists that are the same when seen through functions
nth-map : {A B : Type 0} (f : A → B) (xs : List A) (i : ℕ) (d : A) (e : B) → i < length xs → get_or (map f xs) i e ≡ f (get_or xs i d)
nth-map f [] i d e h = absurd (omega arith)
nth-map f (x ∷ xs) zero d e h = refl
nth-map f (x ∷ xs) (suc i) d e h = nth-map f xs i d e (omega arith)

module _ {A B : Type 0} (f g : A → B) (xs ys : List A) (same : map f xs ≡ map g ys) (d : A) where
  lengths-same : length xs ≡ length ys
  lengths-same = sym (length-map xs f) ∙ ap length same ∙ length-map ys g

  nth-same : (i : ℕ) → i < length xs → f (get_or xs i d) ≡ g (get_or ys i d)
  nth-same i h =
      let l = lengths-same in
      sym (nth-map f xs i d (f d) h) ∙ ap (λ (z : List B). get_or z i (f d)) same ∙ nth-map g ys i d (f d) (omega arith)

module _ (s s' : List ℕ) where
  text_same : (at n at' n' : ℕ) → at + n ≤ length s → at' + n' ≤ length s' → part s at n ≡ part s' at' n' → SameText s s' (record { at = at; chars = n }) (record { at = at'; chars = n' })
  text_same at n at' n' h h' e =
      let a = length-drop at s in
      let b = length-drop at' s' in
      let c = length-take-le n (drop at s) (omega arith) in
      let d = length-take-le n' (drop at' s') (omega arith) in
      let l = ap length e in
      let m : n ≡ n' = omega arith in
      record {
        chars = m;
        bytes = λ k i.
            sym (get_or-take n (drop at s) k 0 i ∙ get_or-drop at s k 0) ∙ ap (λ (z : List ℕ). get_or z k 0) e ∙ get_or-take n' (drop at' s') k 0 (omega arith) ∙ get_or-drop at' s' k 0;
      }

  module _ (t t' : Tables) where
    -- the attributes of a span of rows
    rows_same : (first n first' n' : ℕ) → first + n ≤ length t.attrs → first' + n' ≤ length t'.attrs
        → map (attribute s) (take n (drop first t.attrs)) ≡ map (attribute s') (take n' (drop first' t'.attrs))
        → (n ≡ n') × ((j : ℕ) → j < n → attribute s (attr_at t (first + j)) ≡ attribute s' (attr_at t' (first' + j)))
    rows_same first n first' n' h h' e =
        let a = length-drop first t.attrs in
        let b = length-drop first' t'.attrs in
        let c = length-take-le n (drop first t.attrs) (omega arith) in
        let d = length-take-le n' (drop first' t'.attrs) (omega arith) in
        let l = sym (length-map (take n (drop first t.attrs)) (attribute s)) ∙ ap length e ∙ length-map (take n' (drop first' t'.attrs)) (attribute s') in
        let m : n ≡ n' = omega arith in (
          m,
          λ j i.
              let x = get_or-take n (drop first t.attrs) j no_attr i ∙ get_or-drop first t.attrs j no_attr in
              let y = get_or-take n' (drop first' t'.attrs) j no_attr (omega arith) ∙ get_or-drop first' t'.attrs j no_attr in
              ap (attribute s) (sym x)
              ∙ (sym (nth-map (attribute s) (take n (drop first t.attrs)) j no_attr (attribute s no_attr) (omega arith))
              ∙ ap (λ (z : List Attribute). get_or z j (attribute s no_attr)) e
              ∙ nth-map (attribute s') (take n' (drop first' t'.attrs)) j no_attr (attribute s no_attr) (omega arith))
              ∙ ap (attribute s') y,
        )

    var-alike : (v v' : Var) → PlacedVar s t v → PlacedVar s' t' v' → variable s (item_of t.attrs v) ≡ variable s' (item_of t'.attrs v') → AlikeVar s s' t t' v v'
    var-alike v v' p p' e =
        let r = length-take-le v.rank v.ids p.rank in
        let r' = length-take-le v'.rank v'.ids p'.rank in
        let ids = ap (λ (x : Variable). x.ids) e in
        let l = ap length ids in
        let rank : v.rank ≡ v'.rank = omega arith in
        let rows = rows_same v.first v.attrs v'.first v'.attrs p.span p'.span (ap (λ (x : Variable). x.attributes) e) in
        let n = rows.0 in
        record {
          name = text_same v.name v.chars v'.name v'.chars p.name p'.name (ap (λ (x : Variable). x.name) e);
          rank = rank;
          ids = λ k i. sym (get_or-take v.rank v.ids k 0 i) ∙ ap (λ (z : List ℕ). get_or z k 0) ids ∙ get_or-take v'.rank v'.ids k 0 (omega arith);
          attrs = n;
          rows = λ j i. text_same _ _ _ _ (p.rows j i) (p'.rows j (omega arith)) (ap (λ (x : Attribute). x.name) (rows.1 j i));
          code = ap (λ (x : Variable). x.code) e;
          begin = ap (λ (x : Variable). x.begin) e;
        }

    -- tables that say the same at the same size are alike
    pub said-alike : Placed s t → Placed s' t' → t.size ≡ t'.size → (said s t).contents ≡ (said s' t').contents → Alike s s' t t'
    unfolding contents held
    said-alike p p' size e =
        let ds = ap (λ (m : Contents). m.dimensions) e in
        let gs = ap (λ (m : Contents). m.globals) e in
        let vs = ap (λ (m : Contents). m.variables) e in
        let d = length-take-le t.ndims t.dims p.ndims in
        let d' = length-take-le t'.ndims t'.dims p'.ndims in
        let dl = lengths-same (dimension s) (dimension s') (take t.ndims t.dims) (take t'.ndims t'.dims) ds no_dim in
        let dn : t.ndims ≡ t'.ndims = omega arith in
        let dim : (i : ℕ) → i < t.ndims → dimension s (dim_at t i) ≡ dimension s' (dim_at t' i) = λ i h.
        ap (dimension s) (sym (get_or-take t.ndims t.dims i no_dim h))
        ∙ nth-same (dimension s) (dimension s') (take t.ndims t.dims) (take t'.ndims t'.dims) ds no_dim i (omega arith)
        ∙ ap (dimension s') (get_or-take t'.ndims t'.dims i no_dim (omega arith)) in
        let rows = rows_same 0 t.globals 0 t'.globals (let q = p.nglobals in omega arith) (let q = p'.nglobals in omega arith) gs in
        let g = rows.0 in
        let v = length-take-le t.nvars t.vars p.nvars in
        let v' = length-take-le t'.nvars t'.vars p'.nvars in
        let xs = map (item_of t.attrs) (take t.nvars t.vars) in
        let ys = map (item_of t'.attrs) (take t'.nvars t'.vars) in
        let xl = length-map (take t.nvars t.vars) (item_of t.attrs) in
        let yl = length-map (take t'.nvars t'.vars) (item_of t'.attrs) in
        let vl = lengths-same (variable s) (variable s') xs ys vs none in
        let vn : t.nvars ≡ t'.nvars = omega arith in
        let var : (i : ℕ) → i < t.nvars → variable s (item_of t.attrs (var_at t i)) ≡ variable s' (item_of t'.attrs (var_at t' i)) = λ i h.
        ap (λ (w : Var). variable s (item_of t.attrs w)) (sym (get_or-take t.nvars t.vars i no_var h))
        ∙ ap (variable s) (sym (nth-map (item_of t.attrs) (take t.nvars t.vars) i no_var none (omega arith)))
        ∙ nth-same (variable s) (variable s') xs ys vs none i (omega arith)
        ∙ ap (variable s') (nth-map (item_of t'.attrs) (take t'.nvars t'.vars) i no_var none (omega arith))
        ∙ ap (λ (w : Var). variable s' (item_of t'.attrs w)) (get_or-take t'.nvars t'.vars i no_var (omega arith)) in
        record {
          version = ap (λ (m : Contents). m.version) e;
          word = ap (λ (m : Contents). m.word) e;
          size = size;
          ndims = dn;
          dim_texts = λ i h. text_same _ _ _ _ (p.dims i h) (p'.dims i (omega arith)) (ap (λ (x : Dimension). x.name) (dim i h));
          lengths = λ i h. ap (λ (x : Dimension). x.extent) (dim i h);
          globals = g;
          global_texts = λ i h. globals-text p p' rows.1 i h (omega arith);
          nvars = vn;
          vars = λ i h. var-alike (var_at t i) (var_at t' i) (p.vars i h) (p'.vars i (omega arith)) (var i h);
        }
      where
        none : VarItem
        none = record { name = 0; chars = 0; ids = []; attrs = []; code = 0; vsize = 0; begin = 0 }

        globals-text : Placed s t → Placed s' t' → ((j : ℕ) → j < t.globals → attribute s (attr_at t (0 + j)) ≡ attribute s' (attr_at t' (0 + j))) → (i : ℕ) → i < t.globals → i < t'.globals
            → SameText s s' (record { at = (attr_at t (0 + i)).name; chars = (attr_at t (0 + i)).chars }) (record { at = (attr_at t' (0 + i)).name; chars = (attr_at t' (0 + i)).chars })
        globals-text p p' r i h h' =
            let z : 0 + i ≡ i = omega arith in
            text_same _ _ _ _ (rw z (p.globals i h)) (rw z (p'.globals i h')) (ap (λ (x : Attribute). x.name) (r i h))
