-- The length of the header that is written.
use Prim.Native.Nat.{ℕ, ◌+◌, ◌*◌, ◌≤◌, ◌<◌}
use native.Mathlib.Omega.{arith}
use mathlib.Core.Path.{◌≡◌, refl, ap, ◌∙◌}
use mathlib.Core.List.{List, [], ◌∷◌, ◌++◌, map}
use lib.ListN.{length, take, drop, replicate, length-append, length-replicate}
use Rattle.cdf.specs.Form.{form}
use Rattle.cdf.specs.Padding.{padding}
use Rattle.items.specs.Name.{part}
use Rattle.items.specs.Types.{size_of}
use Rattle.grammar.specs.Tables.{no_dim, no_attr, no_var, dim_at, attr_at, var_at}
use Rattle.grammar.specs.Meaning.{dimension, attribute, variable, contents, item_of, held}
use Rattle.grammar.specs.declared.tables.Dim.{Dim}
use Rattle.grammar.specs.declared.tables.Attr.{Attr}
use Rattle.grammar.specs.declared.tables.Tables.{Tables}
use Rattle.rules.specs.Rules.{spelled}
use Rattle.rules.specs.Encode.{padded_out, each, list_bytes, name_bytes, dim_bytes, attr_bytes, var_bytes, encode}
use Rattle.rules.proofs.Laws.Sound.{length_part}
use Rattle.rules.proofs.Laws.Spelled.{length-spelled}
use Rattle.order.specs.Writable.{to_write}
use Rattle.order.specs.Inner.Lengths.{padded_length, name_length, dim_length, attr_length, attrs_length, var_length, dims_length, vars_length, header_length}
use Rattle.order.proofs.Laws.Inside.{Inside}
use Rattle.order.specs.Inner.Rows.{FullRows}
use Rattle.order.proofs.Laws.Rows.{variable_at, few-attrs, ids-length, few-dims, few-globals, few-vars}
use Rattle.order.proofs.Laws.Lists.{each-length, sum-map, total-same, sum-take, sum-span}

-- a list with its tag, or absent: eight bytes, and its items
list_length : {A : Type 0} (v tag : ℕ) (g : A → List ℕ) (xs : List A) → length (list_bytes (form v) tag g xs) ≡ 8 + length (each g xs)
unfolding list_bytes each
list_length v tag g [] = refl
list_length v tag g (x ∷ xs) =
    let a = length-append (spelled 4 (length (x ∷ xs))) (g x ++ each g xs) in
    let b = length-spelled 4 (length (x ∷ xs)) in
    omega arith

padded-length : (b : List ℕ) (n : ℕ) → length b ≡ n → length (padded_out b) ≡ padded_length n
unfolding padded_out
padded-length b n e = length-append b (replicate (padding (length b)) 0) ∙ ap (λ (k : ℕ). length b + k) (length-replicate (padding (length b)) 0) ∙ ap (λ (k : ℕ). k + padding k) e

name-length : (v : ℕ) (b : List ℕ) (n : ℕ) → length b ≡ n → length (name_bytes (form v) b) ≡ name_length n
unfolding name_bytes
name-length v b n e =
    let a = length-append (spelled 4 (length b)) (padded_out b) in
    let c = length-spelled 4 (length b) in
    let p = padded-length b n e in
    omega arith

ids-bytes : (ids : List ℕ) → length (each (spelled 4) ids) ≡ 4 * length ids
unfolding each
ids-bytes [] = refl
ids-bytes (x ∷ xs) =
    let a = length-append (spelled 4 x) (each (spelled 4) xs) in
    let b = length-spelled 4 x in
    let c = ids-bytes xs in
    omega arith

module _ (s : List ℕ) (v : ℕ) where
  dim-length : (d : Dim) → d.name + d.chars ≤ length s → length (dim_bytes (form v) (dimension s d)) ≡ dim_length d
  unfolding dim_bytes
  dim-length d h =
      let n = name-length v (part s d.name d.chars) d.chars (length_part s d.name d.chars h) in
      let a = length-append (name_bytes (form v) (part s d.name d.chars)) (spelled 4 d.length) in
      let b = length-spelled 4 d.length in
      omega arith

  attr-length : (a : Attr) → a.name + a.chars ≤ length s → a.values + a.count * size_of a.code ≤ length s → length (attr_bytes (form v) (attribute s a)) ≡ attr_length a
  unfolding attr_bytes attr_length
  attr-length a h w =
      let values = part s a.values (a.count * size_of a.code) in
      let n = name-length v (part s a.name a.chars) a.chars (length_part s a.name a.chars h) in
      let p = padded-length values (a.count * size_of a.code) (length_part s a.values (a.count * size_of a.code) w) in
      let x = length-append (name_bytes (form v) (part s a.name a.chars)) (spelled 4 a.code ++ (spelled 4 a.count ++ padded_out values)) in
      let y = length-append (spelled 4 a.code) (spelled 4 a.count ++ padded_out values) in
      let z = length-append (spelled 4 a.count) (padded_out values) in
      let b = length-spelled 4 a.code in
      let c = length-spelled 4 a.count in
      omega arith

module _ (s : List ℕ) (t : Tables) (full : FullRows t) (k : Inside s t) where
  attr-is : (i : ℕ) → i < t.nattrs → length (attr_bytes (form t.version) (attribute s (attr_at t i))) ≡ attr_length (attr_at t i)
  attr-is i l = attr-length s t.version (attr_at t i) (k.attrs i l) (k.values i l)

  span-length : (first n : ℕ) → first + n ≤ t.nattrs → first + n ≤ length t.attrs
      → length (each (attr_bytes (form t.version)) (map (attribute s) (take n (drop first t.attrs)))) ≡ attrs_length t.attrs first n
  unfolding attrs_length
  span-length first n l m =
      each-length (attr_bytes (form t.version)) (map (attribute s) (take n (drop first t.attrs)))
      ∙ sum-map _ (attribute s) (take n (drop first t.attrs))
      ∙ sum-span _ no_attr t.attrs first n m
      ∙ total-same _ _ n (λ j h. attr-is (first + j) (omega arith))

  var-length : (i : ℕ) → i < t.nvars → length (var_bytes (form t.version) (variable_at s t full k i)) ≡ var_length t (var_at t i)
  unfolding var_bytes var_length
  var-length i l =
      let v = var_at t i in
      let f = form t.version in
      let name = part s v.name v.chars in
      let ids = take v.rank v.ids in
      let attrs = map (attribute s) (take v.attrs (drop v.first t.attrs)) in
      let last = spelled f.begin_bytes v.begin in
      let tail = spelled 4 v.code ++ (spelled 4 v.vsize ++ last) in
      let list = list_bytes f 0x0C (attr_bytes f) attrs in
      let n = name-length t.version name v.chars (length_part s v.name v.chars (k.vars i l)) in
      let a = length-append (name_bytes f name) (spelled 4 (length ids) ++ (each (spelled 4) ids ++ (list ++ tail))) in
      let b = length-append (spelled 4 (length ids)) (each (spelled 4) ids ++ (list ++ tail)) in
      let c = length-append (each (spelled 4) ids) (list ++ tail) in
      let d = length-append list tail in
      let e = length-append (spelled 4 v.code) (spelled 4 v.vsize ++ last) in
      let g = length-append (spelled 4 v.vsize) last in
      let x₀ = length-spelled 4 (length ids) in
      let x₁ = length-spelled 4 v.code in
      let x₂ = length-spelled 4 v.vsize in
      let x₃ = length-spelled f.begin_bytes v.begin in
      let y = ids-bytes ids in
      let z = ids-length s t full k i l in
      let p = list_length t.version 0x0C (attr_bytes f) attrs in
      let q = span-length v.first v.attrs (k.counted.spans i l) (few-attrs s t full k i l) in
      omega arith

  dims-bytes : length (each (dim_bytes (form t.version)) (map (dimension s) (take t.ndims t.dims))) ≡ dims_length t
  unfolding dims_length
  dims-bytes =
      each-length (dim_bytes (form t.version)) (map (dimension s) (take t.ndims t.dims))
      ∙ sum-map _ (dimension s) (take t.ndims t.dims)
      ∙ sum-take _ no_dim t.dims t.ndims (few-dims s t full k)
      ∙ total-same _ _ t.ndims (λ i h. dim-length s t.version (dim_at t i) (k.dims i h))

  globals-bytes : length (each (attr_bytes (form t.version)) (map (attribute s) (take t.globals t.attrs))) ≡ attrs_length t.attrs 0 t.globals
  globals-bytes = span-length 0 t.globals (omega (arith, k.counted.globals)) (omega (arith, few-globals s t full k))

  vars-bytes : length (each (var_bytes (form t.version)) (map (variable s) (map (item_of t.attrs) (take t.nvars t.vars)))) ≡ vars_length t
  unfolding vars_length
  vars-bytes =
      each-length (var_bytes (form t.version)) (map (variable s) (map (item_of t.attrs) (take t.nvars t.vars)))
      ∙ sum-map _ (variable s) (map (item_of t.attrs) (take t.nvars t.vars))
      ∙ sum-map _ (item_of t.attrs) (take t.nvars t.vars)
      ∙ sum-take _ no_var t.vars t.nvars (few-vars s t full k)
      ∙ total-same _ _ t.nvars (λ i h. var-length i h)

  pub encoded-length : length (encode (to_write s t)) ≡ header_length t
  unfolding encode header_length contents held
  encoded-length =
      let f = form t.version in
      let ds = map (dimension s) (take t.ndims t.dims) in
      let gs = map (attribute s) (take t.globals t.attrs) in
      let vs = map (variable s) (map (item_of t.attrs) (take t.nvars t.vars)) in
      let d = list_bytes f 0x0A (dim_bytes f) ds in
      let g = list_bytes f 0x0C (attr_bytes f) gs in
      let v = list_bytes f 0x0B (var_bytes f) vs in
      let a = length-append (spelled 4 t.word) (d ++ (g ++ v)) in
      let b = length-append d (g ++ v) in
      let c = length-append g v in
      let w = length-spelled 4 t.word in
      let p = list_length t.version 0x0A (dim_bytes f) ds in
      let q = list_length t.version 0x0C (attr_bytes f) gs in
      let r = list_length t.version 0x0B (var_bytes f) vs in
      let x = dims-bytes in
      let y = globals-bytes in
      let z = vars-bytes in
      omega arith
