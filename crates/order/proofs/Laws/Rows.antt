-- The items of what tables say, by the rows of the tables.
use Prim.Native.Nat.{ℕ, zero, suc, ◌+◌, ◌≤◌, ◌<◌}
use native.Mathlib.Omega.{arith}
use mathlib.Core.Path.{◌≡◌, sym, subst, ◌∙◌}
use mathlib.Core.List.{List, [], ◌∷◌, map}
use lib.ListN.{length, get_or, take, drop, length-map, length-drop}
use lib.Seq.{get_or-drop, length-take-le}
use mir.Val.{Val}
use denote.Shadow.{shadow}
use denote.Struct.Declared.{row}
use Rattle.grammar.specs.contracts.tables.Tables.{the_type}
use Rattle.grammar.specs.contracts.tables.Var as var_type
use Rattle.grammar.proofs.Laws.Arrays.{element}
use Rattle.grammar.specs.Tables.{no_dim, no_attr, no_var, dim_at, attr_at, var_at}
use Rattle.grammar.specs.Meaning.{Dimension, Attribute, Variable, dimension, attribute, variable, contents, item_of, held}
use Rattle.grammar.specs.declared.tables.Tables.{Tables}
use Rattle.rules.proofs.Laws.Views.{EachIs}
use Rattle.order.specs.Writable.{to_write}
use Rattle.order.specs.Inner.Rows.{FullRows}
use Rattle.order.proofs.Laws.Inside.{Inside}

-- tables that the code has: their arrays have the lengths of their types
pub full-rows : (t : Tables) (vs : List Val) → shadow ((row the_type).own_val t vs) → FullRows t
full-rows t vs good =
    let g = good.1.1.1.1.1.1.1 in
    let h = g.1.1.1 in
    let v = h.1.1.0 in
    let rows : length t.vars ≡ 64 = v.1.0.1 in
    record {
      dims = g.0.1.0.1;
      attrs = h.0.1.0.1;
      vars = rows;
      ids = λ i _ l. (element (row var_type.the_type).own_val no_var t.vars _ v.1.1 i (omega arith)).1.1.1.1.1.0.1.0.1;
    }

-- items seen through a function
pub each_map : {A B : Type 0} (P : B → Type 0) (f : A → B) (xs : List A) → EachIs (λ (x : A). P (f x)) xs → EachIs P (map f xs)
each_map P f [] k = tt
each_map P f (x ∷ xs) k = (k.0, each_map P f xs k.1)

pub map_each : {A B : Type 0} (P : B → Type 0) (f : A → B) (xs : List A) → EachIs P (map f xs) → EachIs (λ (x : A). P (f x)) xs
map_each P f [] k = tt
map_each P f (x ∷ xs) k = (k.0, map_each P f xs k.1)

-- the first n items
take-of : {A : Type 0} (P : A → Type 0) (d : A) (xs : List A) (n : ℕ) → n ≤ length xs → ((i : ℕ) → i < n → P (get_or xs i d)) → EachIs P (take n xs)
take-of P d xs zero h k = tt
take-of P d [] (suc n) h k = absurd (omega arith)
take-of P d (x ∷ xs) (suc n) h k = (k 0 (omega arith), take-of P d xs n (omega arith) (λ i l. k (suc i) (omega arith)))

of-take : {A : Type 0} (P : A → Type 0) (d : A) (xs : List A) (n : ℕ) → n ≤ length xs → EachIs P (take n xs) → (i : ℕ) → i < n → P (get_or xs i d)
of-take P d xs zero h k i l = absurd (omega arith)
of-take P d [] (suc n) h k i l = absurd (omega arith)
of-take P d (x ∷ xs) (suc n) h k zero l = k.0
of-take P d (x ∷ xs) (suc n) h k (suc i) l = of-take P d xs n (omega arith) k.1 i (omega arith)

-- n items from one on
module _ {A : Type 0} (P : A → Type 0) (d : A) (xs : List A) (first n : ℕ) (fits : first + n ≤ length xs) where
  rest : n ≤ length (drop first xs)
  rest = let l = length-drop first xs in omega arith

  span_of : ((j : ℕ) → j < n → P (get_or xs (first + j) d)) → EachIs P (take n (drop first xs))
  span_of k = take-of P d (drop first xs) n rest (λ j l. subst P (sym (get_or-drop first xs j d)) (k j l))

  of-span : EachIs P (take n (drop first xs)) → (j : ℕ) → j < n → P (get_or xs (first + j) d)
  of-span k j l = subst P (get_or-drop first xs j d) (of-take P d (drop first xs) n rest k j l)

module _ (s : List ℕ) (t : Tables) (full : FullRows t) (k : Inside s t) where
  pub few-dims : t.ndims ≤ length t.dims
  few-dims = omega (arith, full.dims, k.counted.dims)

  pub few-globals : t.globals ≤ length t.attrs
  few-globals = omega (arith, full.attrs, k.counted.attrs, k.counted.globals)

  pub few-vars : t.nvars ≤ length t.vars
  few-vars = omega (arith, full.vars, k.counted.vars)

  pub few-attrs : (i : ℕ) → i < t.nvars → (var_at t i).first + (var_at t i).attrs ≤ length t.attrs
  few-attrs i l = omega (arith, full.attrs, k.counted.attrs, k.counted.spans i l)

  -- the dimensions
  pub dims-of : (P : Dimension → Type 0) → ((i : ℕ) → i < t.ndims → P (dimension s (dim_at t i))) → EachIs P (to_write s t).dimensions
  unfolding contents held
  dims-of P h = each_map P (dimension s) (take t.ndims t.dims) (take-of _ no_dim t.dims t.ndims few-dims h)

  pub of-dims : (P : Dimension → Type 0) → EachIs P (to_write s t).dimensions → (i : ℕ) → i < t.ndims → P (dimension s (dim_at t i))
  unfolding contents held
  of-dims P h = of-take (λ d. P (dimension s d)) no_dim t.dims t.ndims few-dims (map_each P (dimension s) (take t.ndims t.dims) h)

  pub dims-length : length (to_write s t).dimensions ≡ t.ndims
  unfolding contents held
  dims-length = length-map (take t.ndims t.dims) (dimension s) ∙ length-take-le t.ndims t.dims few-dims

  -- the global attributes
  pub globals_of : (P : Attribute → Type 0) → ((i : ℕ) → i < t.globals → P (attribute s (attr_at t i))) → EachIs P (to_write s t).globals
  unfolding contents held
  globals_of P h = each_map P (attribute s) (take t.globals t.attrs) (take-of _ no_attr t.attrs t.globals few-globals h)

  pub of-globals : (P : Attribute → Type 0) → EachIs P (to_write s t).globals → (i : ℕ) → i < t.globals → P (attribute s (attr_at t i))
  unfolding contents held
  of-globals P h = of-take (λ a. P (attribute s a)) no_attr t.attrs t.globals few-globals (map_each P (attribute s) (take t.globals t.attrs) h)

  pub globals-length : length (to_write s t).globals ≡ t.globals
  unfolding contents held
  globals-length = length-map (take t.globals t.attrs) (attribute s) ∙ length-take-le t.globals t.attrs few-globals

  -- the variables
  abbrev pub variable_at : ℕ → Variable
  variable_at i = variable s (item_of t.attrs (var_at t i))

  pub vars-of : (P : Variable → Type 0) → ((i : ℕ) → i < t.nvars → P (variable_at i)) → EachIs P (to_write s t).variables
  unfolding contents held
  vars-of P h =
      each_map P (variable s) (map (item_of t.attrs) (take t.nvars t.vars))
      (each_map _ (item_of t.attrs) (take t.nvars t.vars) (take-of _ no_var t.vars t.nvars few-vars h))

  pub of-vars : (P : Variable → Type 0) → EachIs P (to_write s t).variables → (i : ℕ) → i < t.nvars → P (variable_at i)
  unfolding contents held
  of-vars P h =
      of-take (λ v. P (variable s (item_of t.attrs v))) no_var t.vars t.nvars few-vars
      (map_each _ (item_of t.attrs) (take t.nvars t.vars) (map_each P (variable s) (map (item_of t.attrs) (take t.nvars t.vars)) h))

  pub vars-length : length (to_write s t).variables ≡ t.nvars
  unfolding contents held
  vars-length =
      length-map (map (item_of t.attrs) (take t.nvars t.vars)) (variable s) ∙ length-map (take t.nvars t.vars) (item_of t.attrs) ∙ length-take-le t.nvars t.vars few-vars

  -- the ids and the attributes of a variable
  module _ (i : ℕ) (l : i < t.nvars) where
    few-ids : (var_at t i).rank ≤ length (var_at t i).ids
    few-ids = let e = full.ids i l (omega (arith, k.counted.vars)) in omega (arith, k.ranks i l)

    pub ids-of : (P : ℕ → Type 0) → ((j : ℕ) → j < (var_at t i).rank → P (get_or (var_at t i).ids j 0)) → EachIs P (variable_at i).ids
    ids-of P h = take-of P 0 (var_at t i).ids (var_at t i).rank few-ids h

    pub ids-length : length (variable_at i).ids ≡ (var_at t i).rank
    ids-length = length-take-le (var_at t i).rank (var_at t i).ids few-ids

    pub attrs-of : (P : Attribute → Type 0) → ((j : ℕ) → j < (var_at t i).attrs → P (attribute s (attr_at t ((var_at t i).first + j)))) → EachIs P (variable_at i).attributes
    attrs-of P h = each_map P (attribute s) (take (var_at t i).attrs (drop (var_at t i).first t.attrs)) (span_of _ no_attr t.attrs _ _ (few-attrs i l) h)

    pub of-attrs : (P : Attribute → Type 0) → EachIs P (variable_at i).attributes → (j : ℕ) → j < (var_at t i).attrs → P (attribute s (attr_at t ((var_at t i).first + j)))
    of-attrs P h = of-span (λ a. P (attribute s a)) no_attr t.attrs _ _ (few-attrs i l) (map_each P (attribute s) (take (var_at t i).attrs (drop (var_at t i).first t.attrs)) h)

    pub attrs-length : length (variable_at i).attributes ≡ (var_at t i).attrs
    attrs-length = length-map (take (var_at t i).attrs (drop (var_at t i).first t.attrs)) (attribute s) ∙ length-take-le (var_at t i).attrs (drop (var_at t i).first t.attrs) (rest (λ a. Unit) no_attr t.attrs _ _ (few-attrs i l))
