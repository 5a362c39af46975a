-- The capacities and ranges as what they say, each both ways.
use Prim.Native.Nat.{ℕ, ◌*◌, ◌≤◌, ◌<◌}
use native.Mathlib.Omega.{arith}
use mathlib.Core.Path.{◌≡◌, refl}
use mathlib.Core.Bool.{Bool, true, false, ◌&&◌, ◌||◌, or-true}
use mathlib.Core.Logic.{◌⊎◌, inl, inr, ⊎_elim}
use mathlib.Core.List.{List, [], ◌∷◌, ◌++◌}
use lib.ListN.{length}
use lib.Dec.{ltb, leb, eqb}
use borrow.Author.Tests.{lt-ltb, ltb-true, le-leb, leb-true, eq-eqb, eqb-true}
use Rattle.bigendian.specs.Number.{half}
use Rattle.cdf.specs.Form.{Form, form}
use Rattle.cdf.specs.Magic.{both_versions, admits}
use Rattle.cdf.specs.Word.{indeterminate}
use Rattle.cdf.proofs.Laws.Below.{both}
use Rattle.items.specs.Name.{longest_name}
use Rattle.items.specs.Types.{size_of}
use Rattle.items.specs.Utf8.{utf8}
use Rattle.grammar.specs.Tables.{max_dims, max_vars, max_attrs, max_rank}
use Rattle.grammar.specs.Meaning.{Dimension, Attribute, Variable, Contents}
use Rattle.rules.specs.Capacity.{all_of, attributes_of, is_short, are_short, var_fits, fits}
use Rattle.rules.specs.Range.{is_word, is_open_word, is_code, is_text, dim_in_range, attr_in_range, attrs_in_range, var_in_range, in_range}

-- every item of a list is so
abbrev pub EachIs : {A : Type 0} → (A → Type 0) → List A → Type 0
EachIs P [] = Unit
EachIs P (x ∷ xs) = P x × EachIs P xs

pub all_true : {A : Type 0} (p : A → Bool) (P : A → Type 0) → ((x : A) → P x → p x ≡ true) → (xs : List A) → EachIs P xs → all_of p xs ≡ true
unfolding all_of
all_true p P h [] k = refl
all_true p P h (x ∷ xs) k = rw (h x k.0, all_true p P h xs k.1)

pub all-each : {A : Type 0} (p : A → Bool) (P : A → Type 0) → ((x : A) → p x ≡ true → P x) → (xs : List A) → all_of p xs ≡ true → EachIs P xs
unfolding all_of
all-each p P h [] k = tt
all-each p P h (x ∷ xs) k = let b = both (p x) (all_of p xs) k in (h x b.0, all-each p P h xs b.1)

-- capacities
abbrev pub IsShort : List ℕ → Type 0
IsShort n = length n ≤ longest_name

abbrev pub AreShort : List Attribute → Type 0
AreShort = EachIs (λ (a : Attribute). IsShort a.name)

pub record VarFits (v : Variable) : Type 0 where
  pub name : IsShort v.name
  pub rank : length v.ids ≤ max_rank
  pub attributes : AreShort v.attributes

pub record Fits (m : Contents) : Type 0 where
  pub dims : length m.dimensions ≤ max_dims
  pub vars : length m.variables ≤ max_vars
  pub attrs : length (m.globals ++ attributes_of m.variables) ≤ max_attrs
  pub dim_names : EachIs (λ (d : Dimension). IsShort d.name) m.dimensions
  pub global_names : AreShort m.globals
  pub variables : EachIs VarFits m.variables

are_short-see : (xs : List Attribute) → are_short xs ≡ true → AreShort xs
are_short-see = all-each _ _ (λ a k. leb-true _ _ k)

are_short-tell : (xs : List Attribute) → AreShort xs → are_short xs ≡ true
are_short-tell = all_true _ _ (λ a k. le-leb _ _ k)

var_fits-see : (v : Variable) → var_fits v ≡ true → VarFits v
unfolding var_fits
var_fits-see v k =
    let a = both (is_short v.name) _ k in
    let b = both (leb (length v.ids) max_rank) _ a.1 in
    record { name = leb-true _ _ a.0; rank = leb-true _ _ b.0; attributes = are_short-see v.attributes b.1 }

var_fits-tell : (v : Variable) → VarFits v → var_fits v ≡ true
unfolding var_fits
var_fits-tell v k = rw (le-leb (length v.name) longest_name k.name, le-leb (length v.ids) max_rank k.rank, are_short-tell v.attributes k.attributes)

pub fits-see : (m : Contents) → fits m ≡ true → Fits m
unfolding fits
fits-see m k =
    let a = both (leb (length m.dimensions) max_dims) _ k in
    let b = both (leb (length m.variables) max_vars) _ a.1 in
    let c = both (leb (length (m.globals ++ attributes_of m.variables)) max_attrs) _ b.1 in
    let d = both (all_of (λ (d : Dimension). is_short d.name) m.dimensions) _ c.1 in
    let e = both (are_short m.globals) _ d.1 in
    record {
      dims = leb-true _ _ a.0;
      vars = leb-true _ _ b.0;
      attrs = leb-true _ _ c.0;
      dim_names = all-each _ _ (λ x k. leb-true _ _ k) m.dimensions d.0;
      global_names = are_short-see m.globals e.0;
      variables = all-each var_fits VarFits var_fits-see m.variables e.1;
    }

pub fits-tell : (m : Contents) → Fits m → fits m ≡ true
unfolding fits
fits-tell m k =
    rw (
      le-leb (length m.dimensions) max_dims k.dims,
      le-leb (length m.variables) max_vars k.vars,
      le-leb (length (m.globals ++ attributes_of m.variables)) max_attrs k.attrs,
      all_true (λ (d : Dimension). is_short d.name) _ (λ d h. le-leb _ _ h) m.dimensions k.dim_names,
      are_short-tell m.globals k.global_names,
      all_true var_fits VarFits var_fits-tell m.variables k.variables,
    )

-- ranges
module _ (f : Form) where
  abbrev pub IsWord : ℕ → Type 0
  IsWord n = n < half f.word_bytes

  abbrev pub IsOpenWord : ℕ → Type 0
  IsOpenWord n = IsWord n ⊎ (n ≡ indeterminate f.word_bytes)

  abbrev pub IsCode : ℕ → Type 0
  IsCode c = (1 ≤ c) × (c ≤ f.codes)

  abbrev pub IsText : List ℕ → Type 0
  IsText n = IsWord (length n) × (utf8 n ≡ true)

  abbrev pub DimInRange : Dimension → Type 0
  DimInRange d = IsText d.name × IsWord d.extent

  pub record AttrInRange (a : Attribute) : Type 0 where
    pub name : IsText a.name
    pub code : IsCode a.code
    pub count : IsWord a.count
    pub values : length a.values ≡ a.count * size_of a.code

  abbrev pub AttrsInRange : List Attribute → Type 0
  AttrsInRange xs = IsWord (length xs) × EachIs AttrInRange xs

  pub record VarInRange (v : Variable) : Type 0 where
    pub name : IsText v.name
    pub rank : IsWord (length v.ids)
    pub ids : EachIs IsWord v.ids
    pub attributes : AttrsInRange v.attributes
    pub code : IsCode v.code
    pub vsize : IsOpenWord v.vsize
    pub begin : v.begin < half f.begin_bytes

  open-see : (n : ℕ) → is_open_word f n ≡ true → IsOpenWord n
  open-see n k = by (ltb n (half f.word_bytes)) refl k
    where
      by : (b : Bool) → ltb n (half f.word_bytes) ≡ b → (b || eqb n (indeterminate f.word_bytes)) ≡ true → IsOpenWord n
      by true q k = inl (ltb-true _ _ q)
      by false q k = inr (eqb-true _ _ k)

  open-tell : (n : ℕ) → IsOpenWord n → is_open_word f n ≡ true
  open-tell n = ⊎_elim (λ (h : IsWord n). rw (lt-ltb n (half f.word_bytes) h)) (λ (h : n ≡ indeterminate f.word_bytes). rw (eq-eqb n (indeterminate f.word_bytes) h) (or-true (ltb n (half f.word_bytes))))

  text-see : (n : List ℕ) → is_text f n ≡ true → IsText n
  text-see n k = let b = both (is_word f (length n)) (utf8 n) k in (ltb-true _ _ b.0, b.1)

  text-tell : (n : List ℕ) → IsText n → is_text f n ≡ true
  text-tell n k = rw (lt-ltb (length n) (half f.word_bytes) k.0, k.1)

  code-see : (c : ℕ) → is_code f c ≡ true → IsCode c
  code-see c k = let b = both (leb 1 c) (leb c f.codes) k in (leb-true _ _ b.0, leb-true _ _ b.1)

  code-tell : (c : ℕ) → IsCode c → is_code f c ≡ true
  code-tell c k = rw (le-leb 1 c k.0, le-leb c f.codes k.1)

  attr-see : (a : Attribute) → attr_in_range f a ≡ true → AttrInRange a
  unfolding attr_in_range
  attr-see a k =
      let b = both (is_text f a.name) _ k in
      let c = both (is_code f a.code) _ b.1 in
      let d = both (is_word f a.count) _ c.1 in
      record { name = text-see a.name b.0; code = code-see a.code c.0; count = ltb-true _ _ d.0; values = eqb-true _ _ d.1 }

  attr-tell : (a : Attribute) → AttrInRange a → attr_in_range f a ≡ true
  unfolding attr_in_range
  attr-tell a k =
      rw (text-tell a.name k.name, code-tell a.code k.code, lt-ltb a.count (half f.word_bytes) k.count, eq-eqb (length a.values) (a.count * size_of a.code) k.values)

  attrs-see : (xs : List Attribute) → attrs_in_range f xs ≡ true → AttrsInRange xs
  attrs-see xs k = let b = both (is_word f (length xs)) _ k in (ltb-true _ _ b.0, all-each (attr_in_range f) AttrInRange attr-see xs b.1)

  attrs-tell : (xs : List Attribute) → AttrsInRange xs → attrs_in_range f xs ≡ true
  attrs-tell xs k = rw (lt-ltb (length xs) (half f.word_bytes) k.0, all_true (attr_in_range f) AttrInRange attr-tell xs k.1)

  var-see : (v : Variable) → var_in_range f v ≡ true → VarInRange v
  unfolding var_in_range
  var-see v k =
      let a = both (is_text f v.name) _ k in
      let b = both (is_word f (length v.ids)) _ a.1 in
      let c = both (all_of (is_word f) v.ids) _ b.1 in
      let d = both (attrs_in_range f v.attributes) _ c.1 in
      let e = both (is_code f v.code) _ d.1 in
      let g = both (is_open_word f v.vsize) _ e.1 in
      record {
        name = text-see v.name a.0;
        rank = ltb-true _ _ b.0;
        ids = all-each (is_word f) IsWord (λ n h. ltb-true _ _ h) v.ids c.0;
        attributes = attrs-see v.attributes d.0;
        code = code-see v.code e.0;
        vsize = open-see v.vsize g.0;
        begin = ltb-true _ _ g.1;
      }

  var-tell : (v : Variable) → VarInRange v → var_in_range f v ≡ true
  unfolding var_in_range
  var-tell v k =
      rw (
        text-tell v.name k.name,
        lt-ltb (length v.ids) (half f.word_bytes) k.rank,
        all_true (is_word f) IsWord (λ n h. lt-ltb _ _ h) v.ids k.ids,
        attrs-tell v.attributes k.attributes,
        code-tell v.code k.code,
        open-tell v.vsize k.vsize,
        lt-ltb v.begin (half f.begin_bytes) k.begin,
      )

pub record InRange (m : Contents) : Type 0 where
  pub version : (m.version ≡ 1) ⊎ (m.version ≡ 2)
  pub word : IsOpenWord (form m.version) m.word
  pub dims : IsWord (form m.version) (length m.dimensions)
  pub dimensions : EachIs (DimInRange (form m.version)) m.dimensions
  pub globals : AttrsInRange (form m.version) m.globals
  pub vars : IsWord (form m.version) (length m.variables)
  pub variables : EachIs (VarInRange (form m.version)) m.variables

version-see : (v : ℕ) → admits both_versions v ≡ true → (v ≡ 1) ⊎ (v ≡ 2)
unfolding admits
version-see v k = by (eqb v 1) (eqb v 2) refl refl k
  where
    by : (b c : Bool) → eqb v 1 ≡ b → eqb v 2 ≡ c → (b && true || c && true) ≡ true → (v ≡ 1) ⊎ (v ≡ 2)
    by true c p q k = inl (eqb-true v 1 p)
    by false true p q k = inr (eqb-true v 2 q)
    by false false p q k = let z : ◌≡◌ {A = Bool} false true = k in absurd (let w : ◌≡◌ {A = ℕ} 0 1 = cc in omega arith)

pub version-tell : (v : ℕ) → (v ≡ 1) ⊎ (v ≡ 2) → admits both_versions v ≡ true
unfolding admits
version-tell v = ⊎_elim (λ (e : v ≡ 1). rw e) (λ (e : v ≡ 2). rw e)

pub range-see : (m : Contents) → in_range m ≡ true → InRange m
unfolding in_range
range-see m k =
    let f = form m.version in
    let a = both (admits both_versions m.version) _ k in
    let b = both (is_open_word f m.word) _ a.1 in
    let c = both (is_word f (length m.dimensions) && all_of (dim_in_range f) m.dimensions) _ b.1 in
    let d = both (is_word f (length m.dimensions)) _ c.0 in
    let e = both (attrs_in_range f m.globals) _ c.1 in
    let g = both (is_word f (length m.variables)) _ e.1 in
    record {
      version = version-see m.version a.0;
      word = open-see f m.word b.0;
      dims = ltb-true _ _ d.0;
      dimensions = all-each (dim_in_range f) (DimInRange f) (λ x h. let i = both (is_text f x.name) _ h in (text-see f x.name i.0, ltb-true _ _ i.1)) m.dimensions d.1;
      globals = attrs-see f m.globals e.0;
      vars = ltb-true _ _ g.0;
      variables = all-each (var_in_range f) (VarInRange f) (var-see f) m.variables g.1;
    }

pub range-tell : (m : Contents) → InRange m → in_range m ≡ true
unfolding in_range
range-tell m k =
    let f = form m.version in
    rw (
      version-tell m.version k.version,
      open-tell f m.word k.word,
      lt-ltb (length m.dimensions) (half f.word_bytes) k.dims,
      all_true (dim_in_range f) (DimInRange f) (λ x h. rw (text-tell f x.name h.0, lt-ltb x.extent (half f.word_bytes) h.1)) m.dimensions k.dimensions,
      attrs-tell f m.globals k.globals,
      lt-ltb (length m.variables) (half f.word_bytes) k.vars,
      all_true (var_in_range f) (VarInRange f) (var-tell f) m.variables k.variables,
    )
