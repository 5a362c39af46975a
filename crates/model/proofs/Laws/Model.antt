-- Laws of the model rules.
use Prim.Native.Nat.{ℕ, ◌+◌, ◌≤◌, ◌<◌}
use native.Mathlib.Omega.{arith}
use mathlib.Core.Path.{◌≡◌, sym, ap, ◌∙◌}
use mathlib.Core.Logic.{⊎_elim}
use mathlib.Core.Bool.{Bool, true, false, ◌&&◌, not, and-false, or-true}
use mathlib.Core.List.{List}
use lib.ListN.{get_or, length, take, drop}
use lib.Dec.{ltb, leb, eqb}
use Rattle.std.specs.List.{count_by}
use Rattle.std.proofs.lemmas.List.{get_or-map, get_or-take, get_or-drop, length-take-le, length-drop}
use Rattle.model.proofs.Laws.Rows.{all-same, any-same, any-rows, one-of}
use Rattle.model.specs.Inner.Rows.{nth_span, new_after, id_among, row_ids_hold}
use Rattle.model.specs.Inner.Unlimited.{unlimited}
use borrow.Author.Tests.{lt-ltb, le-ltb, eq-eqb, ne_eqb}
use Rattle.cdf.specs.Below.{all_below, any_below, first_where}
use Rattle.items.specs.Name.{same_bytes}
use Rattle.cdf.proofs.Laws.Below.{order, both, all_hold, one-fails, first-none, first-is, any-first, none_first}
use Rattle.grammar.specs.Tables.{no_dim, dim_at, var_at, id_at}
use Rattle.model.specs.Model.{same_name, is_new, distinct, dim_names, var_names, attr_names, names_hold, is_unlimited, one_unlimited, id_holds, ids_hold, model_holds}
use Rattle.model.specs.declared.names.Span.{Span}
use Rattle.grammar.specs.declared.tables.Dim.{Dim}
use Rattle.grammar.specs.declared.tables.Var.{Var}
use Rattle.grammar.specs.declared.tables.Tables.{Tables}

module _ (s : List ℕ) (a b : Span) where
  pub same-bytes : a.chars ≡ b.chars → all_below a.chars (λ i. eqb (get_or s (a.at + i) 0) (get_or s (b.at + i) 0)) ≡ same_name s a b
  unfolding same_name same_bytes
  same-bytes e = rw (eq-eqb a.chars b.chars e)

  pub same_length : (a.chars ≡ b.chars → ⊥) → eqb a.chars b.chars ≡ same_name s a b
  unfolding same_name
  same_length n = rw (ne_eqb a.chars b.chars n)

-- a name among rows
module _ {X : Type 0} (s : List ℕ) (span : X → Span) (before : List X) (name : Span) where
  -- a row has the name
  abbrev pub Has : X → Bool
  Has r = same_name s (span r) name

  -- the i-th row, as the code has it
  pub has-row : (i : ℕ) {r : X} {n : Span} {b : Bool} → r ≡ get_or before i r → n ≡ span r → b ≡ same_name s n name → Has (get_or before i r) ≡ b
  has-row i e f g = ap Has (sym e) ∙ ap (λ (n : Span). same_name s n name) (sym f) ∙ sym g

-- whether a row's name is new, by the rows before it
module _ {X : Type 0} (s : List ℕ) (span : X → Span) (rows : List X) where
  nth : (i : ℕ) (d : X) → i < length rows → nth_span span rows i ≡ span (get_or rows i d)
  nth i d l = get_or-map span rows i d _ l

  new_at : (i : ℕ) (d : X) → i < length rows → new_after s span (take i rows) (span (get_or rows i d)) ≡ is_new s (nth_span span rows) i
  unfolding is_new new_after
  new_at i d l =
      let x = get_or rows i d in
      ap
      (λ (b : Bool). ltb 0 (span x).chars && not b)
      (any-rows (λ r. same_name s (span r) (span x)) rows d i (omega arith)
      ∙ any-same _ (λ j. same_name s (nth_span span rows j) (span x)) i (λ j m. ap (λ (n : Span). same_name s n (span x)) (sym (nth j d (omega arith)))))
      ∙ ap (λ (n : Span). ltb 0 n.chars && not (any_below i (λ j. same_name s (nth_span span rows j) n))) (sym (nth i d l))

  -- the same of the i-th row, as the code has it
  pub new-row : (i : ℕ) {r : X} {n : Span} {b : Bool} → i < length rows → r ≡ get_or rows i r → n ≡ span r → b ≡ new_after s span (take i rows) n → is_new s (nth_span span rows) i ≡ b
  new-row i {r} l e f g =
      sym (new_at i r l) ∙ ap (λ (x : X). new_after s span (take i rows) (span x)) (sym e) ∙ ap (new_after s span (take i rows)) (sym f) ∙ sym g

module _ (s : List ℕ) (names : ℕ → Span) (n : ℕ) where
  pub distinct-all : ((i : ℕ) → i < n → is_new s names i ≡ true) → true ≡ distinct s names n
  unfolding distinct
  distinct-all h = sym (all_hold (is_new s names) n h)

  pub distinct-not : (i : ℕ) → i < n → is_new s names i ≡ false → false ≡ distinct s names n
  unfolding distinct
  distinct-not i l e = sym (one-fails (is_new s names) n i l e)

module _ (s : List ℕ) (f g : ℕ → Span) where
  -- names that agree below n
  pub distinct-same : (n : ℕ) → ((i : ℕ) → i < n → f i ≡ g i) → distinct s f n ≡ distinct s g n
  unfolding distinct is_new
  distinct-same n h =
      all-same _ _ n
      (λ i l.
      ap (λ (x : Span). ltb 0 x.chars && not (any_below i (λ j. same_name s (f j) x))) (h i l)
      ∙ ap (λ (b : Bool). ltb 0 (g i).chars && not b) (any-same _ _ i (λ j m. ap (λ (x : Span). same_name s x (g i)) (h j (omega arith)))))

-- the names of n rows of a list: the first, and those from `first` on
module _ {X : Type 0} (s : List ℕ) (span : X → Span) (rows : List X) (d : X) where
  pub distinct_first : (n : ℕ) → n ≤ length rows → distinct s (nth_span span (take n rows)) (length (take n rows)) ≡ distinct s (λ i. span (get_or rows i d)) n
  distinct_first n h =
      let e = length-take-le n rows h in
      ap (distinct s (nth_span span (take n rows))) e
      ∙ distinct-same s _ _ n (λ i l. get_or-map span (take n rows) i d _ (omega arith) ∙ ap span (get_or-take n rows i d l))

  pub distinct_from : (first n : ℕ) {m : ℕ} → m ≡ n → first + n ≤ length rows → distinct s (nth_span span (take m (drop first rows))) (length (take m (drop first rows))) ≡ distinct s (λ i. span (get_or rows (first + i) d)) n
  distinct_from first n {m} same h =
      let e : length (take m (drop first rows)) ≡ n = length-take-le m (drop first rows) (omega (arith, length-drop first rows)) ∙ same in
      ap (distinct s (nth_span span (take m (drop first rows)))) e
      ∙ distinct-same s _ _ n (λ i l. get_or-map span (take m (drop first rows)) i d _ (omega arith) ∙ ap span (get_or-take m (drop first rows) i d (omega arith) ∙ get_or-drop first rows i d))

-- at most one dimension is unlimited
pub one_unlimited-by : (t : Tables) {ds : List Dim} → ds ≡ take t.ndims t.dims → length ds ≡ t.ndims → leb (count_by (λ d. eqb d.length 0) ds) 1 ≡ one_unlimited t
unfolding one_unlimited
one_unlimited-by t e n = one-of (λ d. eqb d.length 0) t.dims no_dim t.ndims e n

-- the first unlimited dimension
module _ (t : Tables) where
  pub unlimited-none : ((i : ℕ) → i < t.ndims → (dim_at t i).length ≡ 0 → ⊥) → t.ndims ≡ unlimited t
  unfolding unlimited
  unlimited-none h = sym (first-none _ t.ndims (λ i l. ne_eqb (dim_at t i).length 0 (h i l)))

  pub unlimited-is : (i : ℕ) → i < t.ndims → ((k : ℕ) → k < i → (dim_at t k).length ≡ 0 → ⊥) → (dim_at t i).length ≡ 0 → i ≡ unlimited t
  unfolding unlimited
  unlimited-is i l h e = sym (first-is _ t.ndims i l (λ k m. ne_eqb (dim_at t k).length 0 (h k m)) (eq-eqb (dim_at t i).length 0 e))

  -- there is one where its number is that of a dimension
  pub unlimited-some : ltb (unlimited t) t.ndims ≡ any_below t.ndims (is_unlimited t)
  unfolding unlimited
  unlimited-some =
      ⊎_elim
      (λ (h : t.ndims ≤ first_where t.ndims (is_unlimited t)). le-ltb _ t.ndims h ∙ sym (none_first (is_unlimited t) t.ndims h))
      (λ (h : first_where t.ndims (is_unlimited t) < t.ndims). lt-ltb _ t.ndims h ∙ sym (any-first (is_unlimited t) t.ndims h))
      (order t.ndims (first_where t.ndims (is_unlimited t)))

-- the names of the tables, by their lists
module _ (s : List ℕ) (t : Tables) where
  -- the names of a variable's attributes
  abbrev pub Own : ℕ → Bool
  Own i = distinct s (attr_names t (var_at t i).first) (var_at t i).attrs

  pub names-dims : distinct s (dim_names t) t.ndims ≡ false → false ≡ names_hold s t
  unfolding names_hold
  names-dims e = rw e

  pub names-vars : distinct s (var_names t) t.nvars ≡ false → false ≡ names_hold s t
  unfolding names_hold
  names-vars e = rw e (sym (and-false (distinct s (dim_names t) t.ndims)))

  module _ (dims : distinct s (dim_names t) t.ndims ≡ true) (vars : distinct s (var_names t) t.nvars ≡ true) where
    pub names-globals : distinct s (attr_names t 0) t.globals ≡ false → false ≡ names_hold s t
    unfolding names_hold
    names-globals e = rw (dims, vars, e)

    module _ (globals : distinct s (attr_names t 0) t.globals ≡ true) where
      pub names-own : (i : ℕ) → i < t.nvars → Own i ≡ false → false ≡ names_hold s t
      unfolding names_hold
      names-own i l e = rw (dims, vars, globals) (sym (one-fails Own t.nvars i l e))

      pub names-all : ((i : ℕ) → i < t.nvars → Own i ≡ true) → true ≡ names_hold s t
      unfolding names_hold
      names-all h = rw (dims, vars, globals) (sym (all_hold Own t.nvars h))

-- an id among the dimensions ds: one that holds, one too large, the unlimited dimension not first
module _ (ds : List Dim) (v : Var) (k : ℕ) where
  pub id-first : id_at v k < length ds → k ≡ 0 → id_among ds v k ≡ true
  id-first h e = rw (lt-ltb (id_at v k) (length ds) h, eq-eqb k 0 e)

  pub id-fixed : id_at v k < length ds → ((get_or ds (id_at v k) no_dim).length ≡ 0 → ⊥) → id_among ds v k ≡ true
  id-fixed h n = rw (lt-ltb (id_at v k) (length ds) h, ne_eqb (get_or ds (id_at v k) no_dim).length 0 n) (or-true (eqb k 0))

  pub id-large : length ds ≤ id_at v k → id_among ds v k ≡ false
  id-large h = rw (le-ltb (id_at v k) (length ds) h)

  pub id-later : 0 < k → (get_or ds (id_at v k) no_dim).length ≡ 0 → id_among ds v k ≡ false
  id-later p e = rw (ne_eqb k 0 (λ q. omega arith), eq-eqb (get_or ds (id_at v k) no_dim).length 0 e) (and-false (ltb (id_at v k) (length ds)))

module _ (t : Tables) (dims : t.ndims ≤ length t.dims) where
  abbrev pub rows : List Dim
  rows = take t.ndims t.dims

  id-same : (v : Var) (k : ℕ) → id_among rows v k ≡ id_holds t v k
  unfolding id_holds
  id-same v k =
      let e = length-take-le t.ndims t.dims dims in
      ⊎_elim
      (λ (h : t.ndims ≤ id_at v k). id-large rows v k (omega arith) ∙ sym (rw (le-ltb (id_at v k) t.ndims h)))
      (λ (h : id_at v k < t.ndims). rw (e, get_or-take t.ndims t.dims (id_at v k) no_dim h))
      (order t.ndims (id_at v k))

  -- the ids of a variable, and those of all
  pub ids-by : ((i : ℕ) → i < t.nvars → row_ids_hold rows (var_at t i) ≡ true) → true ≡ ids_hold t
  unfolding ids_hold row_ids_hold
  ids-by h = sym (all_hold _ t.nvars (λ i l. sym (all-same _ _ (var_at t i).rank (λ k m. id-same (var_at t i) k)) ∙ h i l))

  pub ids-not : (i : ℕ) → i < t.nvars → row_ids_hold rows (var_at t i) ≡ false → false ≡ ids_hold t
  unfolding ids_hold row_ids_hold
  ids-not i l e = sym (one-fails _ t.nvars i l (sym (all-same _ _ (var_at t i).rank (λ k m. id-same (var_at t i) k)) ∙ e))

-- rule 11 by its parts
module _ (s : List ℕ) (t : Tables) where
  pub model-names : names_hold s t ≡ false → false ≡ model_holds s t
  unfolding model_holds
  model-names e = rw e

  module _ (names : names_hold s t ≡ true) where
    pub model-unlimited : one_unlimited t ≡ false → false ≡ model_holds s t
    unfolding model_holds
    model-unlimited e = rw (names, e)

    pub model-ids : {b : Bool} → one_unlimited t ≡ true → b ≡ ids_hold t → b ≡ model_holds s t
    unfolding model_holds
    model-ids e f = rw (names, e) f

  -- where the model holds, the ids do
  pub model-has-ids : model_holds s t ≡ true → ids_hold t ≡ true
  unfolding model_holds
  model-has-ids e = (both (one_unlimited t) (ids_hold t) (both (names_hold s t) (one_unlimited t && ids_hold t) e).1).1
