-- How much longer a header is in another version.
use Prim.Native.Nat.{ℕ, ◌+◌, ◌*◌, ◌≤◌}
use native.Mathlib.Omega.{arith}
use native.Mathlib.Nat.{suc-mul, zero-mul}
use mathlib.Core.Path.{◌≡◌, refl, ap, ◌∙◌}
use mathlib.Core.List.{List, [], ◌∷◌, ◌++◌, map}
use lib.ListN.{length, take, length-append, length-map}
use lib.Seq.{length-take-le}
use Rattle.cdf.specs.Form.{form}
use Rattle.cdf.specs.Magic.{both_versions}
use Rattle.grammar.specs.Meaning.{Dimension, Attribute, Variable, Contents, variable, contents, item_of, held}
use Rattle.grammar.specs.declared.tables.Tables.{Tables}
use Rattle.rules.specs.Rules.{spelled}
use Rattle.rules.specs.Encode.{each, list_bytes, name_bytes, dim_bytes, attr_bytes, var_bytes, encode}
use Rattle.rules.proofs.Laws.Spelled.{length-spelled}
use Rattle.order.specs.Writable.{to_write}
use Rattle.header.specs.Header.{read_header}
use Rattle.convert.specs.Convert.{in_version}
use Rattle.demands.specs.Converted.{FourAVariable}
use Rattle.demands.proofs.Written.{read-end, read-placed}

-- lists that start alike differ in length as what follows does
module _ (m n : ℕ) where
  after_same : (x y z : List ℕ) → length y + m ≡ length z + n → length (x ++ y) + m ≡ length (x ++ z) + n
  after_same x y z e = let a = length-append x y in let b = length-append x z in omega arith

  after_equal : {x x' : List ℕ} → x ≡ x' → (y z : List ℕ) → length y + m ≡ length z + n → length (x ++ y) + m ≡ length (x' ++ z) + n
  after_equal {x} {x'} p y z e = let q = ap length p in let a = length-append x y in let b = length-append x' z in omega arith

  after-magic : (a b : ℕ) (y z : List ℕ) → length y + m ≡ length z + n → length (0x43 ∷ 0x44 ∷ 0x46 ∷ a ∷ y) + m ≡ length (0x43 ∷ 0x44 ∷ 0x46 ∷ b ∷ z) + n
  after-magic a b y z e = omega arith

-- a header after its magic
abbrev after_magic : ℕ → Contents → List ℕ
after_magic v c =
    spelled 4 c.word
    ++ (list_bytes (form v) 0x0A (dim_bytes (form v)) c.dimensions ++ (list_bytes (form v) 0x0C (attr_bytes (form v)) c.globals ++ list_bytes (form v) 0x0B (var_bytes (form v)) c.variables))

module _ (a b : ℕ) where
  -- a list of what has the same bytes in both versions
  list_same : {A : Type 0} (tag : ℕ) (g h : A → List ℕ) → ((x : A) → g x ≡ h x) → (xs : List A) → list_bytes (form a) tag g xs ≡ list_bytes (form b) tag h xs
  unfolding list_bytes each
  list_same tag g h e [] = refl
  list_same {A} tag g h e (x ∷ xs) = ap (λ (l : List ℕ). 0 ∷ 0 ∷ 0 ∷ tag ∷ (spelled 4 (length (x ∷ xs)) ++ l)) (each_same (x ∷ xs))
    where
      each_same : (ys : List A) → each g ys ≡ each h ys
      each_same [] = refl
      each_same (y ∷ ys) = λ i. e y i ++ each_same ys i

  attr-list : (xs : List Attribute) → list_bytes (form a) 0x0C (attr_bytes (form a)) xs ≡ list_bytes (form b) 0x0C (attr_bytes (form b)) xs
  unfolding attr_bytes name_bytes
  attr-list = list_same 0x0C (attr_bytes (form a)) (attr_bytes (form b)) (λ x. refl)

  dim-list : (xs : List Dimension) → list_bytes (form a) 0x0A (dim_bytes (form a)) xs ≡ list_bytes (form b) 0x0A (dim_bytes (form b)) xs
  unfolding dim_bytes name_bytes
  dim-list = list_same 0x0A (dim_bytes (form a)) (dim_bytes (form b)) (λ x. refl)

  var-width : (v : Variable) → length (var_bytes (form a) v) + (form b).begin_bytes ≡ length (var_bytes (form b) v) + (form a).begin_bytes
  unfolding var_bytes name_bytes
  var-width v =
      let m = (form b).begin_bytes in
      let n = (form a).begin_bytes in
      after_same m n (name_bytes (form 1) v.name) _ _ (
      after_same m n (spelled 4 (length v.ids)) _ _ (
      after_same m n (each (spelled 4) v.ids) _ _ (
      after_equal m n (attr-list v.attributes) _ _ (
      after_same m n (spelled 4 v.code) _ _ (
      after_same m n (spelled 4 v.vsize) (spelled n v.begin) (spelled m v.begin) (
      let x = length-spelled (form a).begin_bytes v.begin in
      let y = length-spelled (form b).begin_bytes v.begin in
      omega arith))))))

  each_width : (vs : List Variable) → length (each (var_bytes (form a)) vs) + length vs * (form b).begin_bytes ≡ length (each (var_bytes (form b)) vs) + length vs * (form a).begin_bytes
  unfolding each
  each_width [] = let x = zero-mul (form b).begin_bytes in let y = zero-mul (form a).begin_bytes in omega arith
  each_width (v ∷ vs) =
      let p = length-append (var_bytes (form a) v) (each (var_bytes (form a)) vs) in
      let q = length-append (var_bytes (form b) v) (each (var_bytes (form b)) vs) in
      let x = suc-mul (length vs) (form b).begin_bytes in
      let y = suc-mul (length vs) (form a).begin_bytes in
      let e = var-width v in
      let f = each_width vs in
      omega arith

  list-width : (vs : List Variable) → length (list_bytes (form a) 0x0B (var_bytes (form a)) vs) + length vs * (form b).begin_bytes ≡ length (list_bytes (form b) 0x0B (var_bytes (form b)) vs) + length vs * (form a).begin_bytes
  unfolding list_bytes
  list-width [] = let x = zero-mul (form b).begin_bytes in let y = zero-mul (form a).begin_bytes in omega arith
  list-width (v ∷ vs) =
      after_same (length (v ∷ vs) * (form b).begin_bytes) (length (v ∷ vs) * (form a).begin_bytes) (0 ∷ 0 ∷ 0 ∷ 0x0B ∷ spelled 4 (length (v ∷ vs))) (each (var_bytes (form a)) (v ∷ vs)) (each (var_bytes (form b)) (v ∷ vs)) (each_width (v ∷ vs))

  encode-width : (c : Contents) → length (encode (in_version a c)) + length c.variables * (form b).begin_bytes ≡ length (encode (in_version b c)) + length c.variables * (form a).begin_bytes
  unfolding encode
  encode-width c =
      let m = length c.variables * (form b).begin_bytes in
      let n = length c.variables * (form a).begin_bytes in
      after-magic m n a b (after_magic a c) (after_magic b c) (
      after_same m n (spelled 4 c.word) _ _ (
      after_equal m n (dim-list c.dimensions) _ _ (
      after_equal m n (attr-list c.globals) (list_bytes (form a) 0x0B (var_bytes (form a)) c.variables) (list_bytes (form b) 0x0B (var_bytes (form b)) c.variables) (
      list-width c.variables))))

said-count : (s : List ℕ) (t : Tables) → t.nvars ≤ length t.vars → length (to_write s t).variables ≡ t.nvars
unfolding contents held
said-count s t h = length-map (map (item_of t.attrs) (take t.nvars t.vars)) (variable s) ∙ length-map (take t.nvars t.vars) (item_of t.attrs) ∙ length-take-le t.nvars t.vars h

pub four-a-variable : FourAVariable
unfolding FourAVariable contents held encode
four-a-variable version s size bytes z =
    let t = (read_header s size both_versions).tables in
    let m = to_write s t in
    let n = said-count s t (read-placed s size both_versions z).nvars in
    let e = read-end s size both_versions bytes z in
    let w = encode-width version t.version m in
    let p = ap (λ (k : ℕ). k * (form t.version).begin_bytes) n in
    let q = ap (λ (k : ℕ). k * (form version).begin_bytes) n in
    omega arith
