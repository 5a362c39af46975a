-- What the code puts into its output is `encode` of what the tables say.
use Prim.Native.Nat.{ℕ, zero, suc, ◌+◌, ◌≤◌, ◌<◌}
use native.Mathlib.Omega.{arith}
use mathlib.Core.Path.{◌≡◌, refl, sym, ap, ◌∙◌}
use mathlib.Core.List.{List, [], ◌∷◌, ◌++◌, map, append_assoc, append-nil}
use lib.ListN.{length, take, drop, get_or, replicate, length-drop, length-map}
use lib.Seq.{length-take-le, get_or-take}
use Rattle.cdf.specs.Form.{form}
use Rattle.items.specs.Name.{part}
use Rattle.grammar.specs.Meaning.{dimension, attribute, variable, item_of, contents, held}
use Rattle.grammar.specs.Tables.{no_dim, no_attr, no_var}
use Rattle.grammar.specs.declared.tables.Dim.{Dim}
use Rattle.grammar.specs.declared.tables.Attr.{Attr}
use Rattle.grammar.specs.declared.tables.Var.{Var}
use Rattle.grammar.specs.declared.tables.Tables.{Tables}
use Rattle.rules.specs.Rules.{spelled}
use Rattle.rules.specs.Encode.{each, list_bytes, name_bytes, dim_bytes, attr_bytes, var_bytes, encode}
use Rattle.order.specs.Writable.{to_write}
use Rattle.writer.specs.Inner.Parts.{start_bytes, dim_out, attr_out, attrs_out, tail_out, var_out, lists_out, header_out}

-- items seen through a function
each-mapped : {A B : Type 0} (g : B → List ℕ) (mean : A → B) (h : A → List ℕ) (xs : List A) (d : A) → ((i : ℕ) → i < length xs → g (mean (get_or xs i d)) ≡ h (get_or xs i d)) → each g (map mean xs) ≡ each h xs
unfolding each
each-mapped g mean h [] d k = refl
each-mapped g mean h (x ∷ xs) d k = ap (λ (l : List ℕ). l ++ each g (map mean xs)) (k 0 (omega arith)) ∙ ap (λ (l : List ℕ). h x ++ l) (each-mapped g mean h xs d (λ i l. k (suc i) (omega arith)))

-- a list: its start, and its items
list-out : {A B : Type 0} (version tag : ℕ) (g : B → List ℕ) (mean : A → B) (h : A → List ℕ) (xs : List A) (n : ℕ) (d : A) → length xs ≡ n → ((i : ℕ) → i < length xs → g (mean (get_or xs i d)) ≡ h (get_or xs i d))
    → list_bytes (form version) tag g (map mean xs) ≡ start_bytes tag n ++ each h xs
unfolding list_bytes start_bytes each
list-out version tag g mean h [] zero d e k = sym (append-nil (replicate 8 0))
list-out version tag g mean h [] (suc n) d e k = absurd (omega arith)
list-out version tag g mean h (x ∷ xs) zero d e k = absurd (omega arith)
list-out version tag g mean h (x ∷ xs) (suc n) d e k =
    let l : suc (length (map mean xs)) ≡ suc n = let m = length-map xs mean in omega arith in
    ap (λ (i : ℕ). 0 ∷ 0 ∷ 0 ∷ tag ∷ (spelled 4 i ++ each g (map mean (x ∷ xs)))) l ∙ ap (λ (z : List ℕ). 0 ∷ 0 ∷ 0 ∷ tag ∷ (spelled 4 (suc n) ++ z)) (each-mapped g mean h (x ∷ xs) d k)

module _ (s : List ℕ) (version : ℕ) where
  name-same : (n : List ℕ) → name_bytes (form version) n ≡ name_bytes (form 1) n
  unfolding name_bytes
  name-same n = refl

  dim-same : (d : Dim) → dim_bytes (form version) (dimension s d) ≡ dim_out s d
  unfolding dim_bytes name_bytes
  dim-same d = refl

  attr-same : (a : Attr) → attr_bytes (form version) (attribute s a) ≡ attr_out s a
  unfolding attr_bytes name_bytes
  attr-same a = refl

  attrs-same : (xs : List Attr) (first n : ℕ) → first + n ≤ length xs → list_bytes (form version) 0x0C (attr_bytes (form version)) (map (attribute s) (take n (drop first xs))) ≡ attrs_out s xs first n
  attrs-same xs first n h =
      let l = length-drop first xs in
      list-out version 0x0C (attr_bytes (form version)) (attribute s) (attr_out s) (take n (drop first xs)) n no_attr (length-take-le n (drop first xs) (omega arith)) (λ i _. attr-same (get_or (take n (drop first xs)) i no_attr))

  var-same : (xs : List Attr) (v : Var) → v.rank ≤ length v.ids → v.first + v.attrs ≤ length xs → var_bytes (form version) (variable s (item_of xs v)) ≡ var_out s version xs v
  unfolding var_bytes var_out
  var-same xs v rank span =
      let a = name_bytes (form 1) (part s v.name v.chars) in
      let b = spelled 4 v.rank in
      let c = each (spelled 4) (take v.rank v.ids) in
      let d = attrs_out s xs v.first v.attrs in
      let e = tail_out version v in
      ap (λ (z : List ℕ). z ++ (spelled 4 (length (take v.rank v.ids)) ++ (c ++ (list_bytes (form version) 0x0C (attr_bytes (form version)) (map (attribute s) (take v.attrs (drop v.first xs))) ++ e)))) (name-same (part s v.name v.chars))
      ∙ ap (λ (n : ℕ). a ++ (spelled 4 n ++ (c ++ (list_bytes (form version) 0x0C (attr_bytes (form version)) (map (attribute s) (take v.attrs (drop v.first xs))) ++ e)))) (length-take-le v.rank v.ids rank)
      ∙ ap (λ (z : List ℕ). a ++ (b ++ (c ++ (z ++ e)))) (attrs-same xs v.first v.attrs span)
      ∙ sym (append_assoc a (b ++ c) (d ++ e) ∙ ap (λ (z : List ℕ). a ++ z) (append_assoc b c (d ++ e)))

map-map : {A B C : Type 0} (f : B → C) (g : A → B) (xs : List A) → map f (map g xs) ≡ map (λ x. f (g x)) xs
map-map f g [] = refl
map-map {C = C} f g (x ∷ xs) = ap (λ (l : List C). f (g x) ∷ l) (map-map f g xs)

-- tables with enough rows for what their counts say
pub record Enough (t : Tables) : Type 0 where
  pub dims : t.ndims ≤ length t.dims
  pub globals : t.globals ≤ length t.attrs
  pub vars : t.nvars ≤ length t.vars
  pub ranks : (i : ℕ) → i < t.nvars → (get_or t.vars i no_var).rank ≤ length (get_or t.vars i no_var).ids
  pub spans : (i : ℕ) → i < t.nvars → (get_or t.vars i no_var).first + (get_or t.vars i no_var).attrs ≤ length t.attrs

-- the whole header
pub encode-out : (s : List ℕ) (t : Tables) → Enough t → encode (to_write s t) ≡ header_out s t
unfolding encode contents held header_out lists_out
encode-out s t k =
    let version = t.version in
    let n = length-take-le t.nvars t.vars k.vars in
    let dims = list-out version 0x0A (dim_bytes (form version)) (dimension s) (dim_out s) (take t.ndims t.dims) t.ndims no_dim (length-take-le t.ndims t.dims k.dims) (λ i _. dim-same s version (get_or (take t.ndims t.dims) i no_dim)) in
    let globals = attrs-same s version t.attrs 0 t.globals (let g = k.globals in omega arith) in
    let vars = ap (list_bytes (form version) 0x0B (var_bytes (form version))) (map-map (variable s) (item_of t.attrs) (take t.nvars t.vars))
    ∙ list-out version 0x0B (var_bytes (form version)) (λ v. variable s (item_of t.attrs v)) (var_out s version t.attrs) (take t.nvars t.vars) t.nvars no_var n
    (λ i h.
    let e = get_or-take t.nvars t.vars i no_var (omega arith) in
    var-same s version t.attrs (get_or (take t.nvars t.vars) i no_var) (rw e (k.ranks i (omega arith))) (rw e (k.spans i (omega arith)))) in
    cc
