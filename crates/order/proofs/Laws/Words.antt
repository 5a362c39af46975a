-- The capacities and ranges of what tables say, by their rows, both ways.
use Prim.Native.Nat.{ℕ, ◌+◌, ◌*◌, ◌≤◌, ◌<◌}
use native.Mathlib.Omega.{arith}
use native.Mathlib.Nat.{zero-add}
use mathlib.Core.Path.{◌≡◌, refl, sym, subst, ap, ◌∙◌}
use mathlib.Core.Bool.{Bool, true, false, ◌&&◌, ◌||◌, or-true}
use mathlib.Core.Logic.{◌⊎◌, inl, inr, ⊎_elim}
use mathlib.Core.List.{List}
use lib.ListN.{length, get_or}
use lib.Dec.{ltb, leb, eqb}
use borrow.Author.Tests.{lt-ltb, ltb-true, le-leb, leb-true, eq-eqb, eqb-true}
use Rattle.bigendian.specs.Number.{half}
use Rattle.cdf.specs.Below.{all_below}
use Rattle.cdf.specs.Form.{form}
use Rattle.cdf.specs.Magic.{both_versions, admits}
use Rattle.cdf.specs.Word.{indeterminate}
use Rattle.cdf.proofs.Laws.Below.{both, all_hold, holds_at}
use Rattle.items.specs.Name.{part}
use Rattle.items.specs.Types.{size_of}
use Rattle.items.specs.Utf8.{utf8}
use Rattle.grammar.specs.Tables.{no_attr, dim_at, attr_at, var_at}
use Rattle.grammar.specs.Meaning.{Variable, dimension, attribute, variable, item_of}
use Rattle.grammar.specs.declared.tables.Dim.{Dim}
use Rattle.grammar.specs.declared.tables.Attr.{Attr}
use Rattle.grammar.specs.declared.tables.Var.{Var}
use Rattle.grammar.specs.declared.tables.Tables.{Tables}
use Rattle.rules.proofs.Laws.Sound.{length_part}
use Rattle.rules.proofs.Laws.Views.{IsShort, DimInRange, AttrInRange, IsOpenWord, IsCode, IsText, version-tell}
use Rattle.order.specs.Inner.Tests.{open_tested, code_tested, name_tested, dim_tested, attr_tested, attrs_tested, var_tested, var_all_tested, dims_tested, vars_tested}

pub and : {a b : Bool} → a ≡ true → b ≡ true → (a && b) ≡ true
and e f = rw (e, f)

-- words, codes, versions
pub open-see : (n : ℕ) → open_tested n ≡ true → (n < half 4) ⊎ (n ≡ indeterminate 4)
open-see n k = by (ltb n (half 4)) refl k
  where
    by : (b : Bool) → ltb n (half 4) ≡ b → (b || eqb n (indeterminate 4)) ≡ true → (n < half 4) ⊎ (n ≡ indeterminate 4)
    by true q k = inl (ltb-true _ _ q)
    by false q k = inr (eqb-true _ _ k)

pub open-tell : (n : ℕ) → (n < half 4) ⊎ (n ≡ indeterminate 4) → open_tested n ≡ true
open-tell n = ⊎_elim (λ (h : n < half 4). rw (lt-ltb n (half 4) h)) (λ (h : n ≡ indeterminate 4). rw (eq-eqb n (indeterminate 4) h) (or-true (ltb n (half 4))))

code-see : (c : ℕ) → code_tested c ≡ true → (1 ≤ c) × (c ≤ 6)
code-see c k = let b = both (leb 1 c) (leb c 6) k in (leb-true _ _ b.0, leb-true _ _ b.1)

code-tell : (c : ℕ) → (1 ≤ c) × (c ≤ 6) → code_tested c ≡ true
code-tell c k = rw (le-leb 1 c k.0, le-leb c 6 k.1)

pub version-see : (v : ℕ) → admits both_versions v ≡ true → (v ≡ 1) ⊎ (v ≡ 2)
unfolding admits
version-see v k = by (eqb v 1) (eqb v 2) refl refl k
  where
    by : (b c : Bool) → eqb v 1 ≡ b → eqb v 2 ≡ c → (b && true || c && true) ≡ true → (v ≡ 1) ⊎ (v ≡ 2)
    by true c p q k = inl (eqb-true v 1 p)
    by false true p q k = inr (eqb-true v 2 q)
    by false false p q k = let z : ◌≡◌ {A = Bool} false true = k in absurd (let w : ◌≡◌ {A = ℕ} 0 1 = cc in omega arith)

module _ (s : List ℕ) where
  -- a name inside the text
  name-see : (at n : ℕ) → at + n ≤ length s → IsShort (part s at n) → utf8 (part s at n) ≡ true → name_tested s at n ≡ true
  name-see at n h l u = let e = length_part s at n h in let m : n ≤ 256 = omega arith in and (le-leb n 256 m) u

  name-tell : (at n : ℕ) → at + n ≤ length s → name_tested s at n ≡ true → (length (part s at n) ≤ 256) × (length (part s at n) < 2147483648) × (utf8 (part s at n) ≡ true)
  name-tell at n h k =
      let b = both (leb n 256) (utf8 (part s at n)) k in
      let l = leb-true n 256 b.0 in
      let e = length_part s at n h in
      (omega arith, omega arith, b.1)

  module _ (v : ℕ) where
    -- a dimension
    pub dim-see : (d : Dim) → d.name + d.chars ≤ length s → IsShort (dimension s d).name → DimInRange (form v) (dimension s d) → dim_tested s d ≡ true
    unfolding dim_tested
    dim-see d h l k = and (name-see d.name d.chars h l k.0.1) (lt-ltb d.length (half 4) k.1)

    pub dim-tell : (d : Dim) → d.name + d.chars ≤ length s → dim_tested s d ≡ true → IsShort (dimension s d).name × DimInRange (form v) (dimension s d)
    unfolding dim_tested
    dim-tell d h k =
        let b = both (name_tested s d.name d.chars) (ltb d.length (half 4)) k in
        let n = name-tell d.name d.chars h b.0 in
        (n.0, ((n.1, n.2), ltb-true _ _ b.1))

    -- an attribute
    pub attr-see : (a : Attr) → a.name + a.chars ≤ length s → IsShort (attribute s a).name → AttrInRange (form v) (attribute s a) → attr_tested s a ≡ true
    unfolding attr_tested
    attr-see a h l k = and (name-see a.name a.chars h l k.name.1) (and (code-tell a.code k.code) (lt-ltb a.count (half 4) k.count))

    pub attr-tell : (a : Attr) → a.name + a.chars ≤ length s → a.values + a.count * size_of a.code ≤ length s → attr_tested s a ≡ true
        → IsShort (attribute s a).name × AttrInRange (form v) (attribute s a)
    unfolding attr_tested
    attr-tell a h w k =
        let b = both (name_tested s a.name a.chars) (code_tested a.code && ltb a.count (half 4)) k in
        let d = both (code_tested a.code) (ltb a.count (half 4)) b.1 in
        let n = name-tell a.name a.chars h b.0 in
        (n.0, record { name = (n.1, n.2); code = code-see a.code d.0; count = ltb-true _ _ d.1; values = length_part s a.values (a.count * size_of a.code) w })

    -- a variable, without its ids and attributes
    pub record VarIs (x : Variable) : Type 0 where
      pub short : IsShort x.name
      pub name : IsText (form v) x.name
      pub code : IsCode (form v) x.code
      pub vsize : IsOpenWord (form v) x.vsize
      pub begin : x.begin < half (form v).begin_bytes

    pub var-see : (rows : List Attr) (w : Var) → w.name + w.chars ≤ length s → VarIs (variable s (item_of rows w)) → var_tested s v w ≡ true
    unfolding var_tested
    var-see rows w h k =
        and (name-see w.name w.chars h k.short k.name.1)
        (and (code-tell w.code k.code) (and (open-tell w.vsize k.vsize) (lt-ltb w.begin (half (form v).begin_bytes) k.begin)))

    pub var-tell : (rows : List Attr) (w : Var) → w.name + w.chars ≤ length s → var_tested s v w ≡ true → VarIs (variable s (item_of rows w))
    unfolding var_tested
    var-tell rows w h k =
        let b = both (name_tested s w.name w.chars) (code_tested w.code && (open_tested w.vsize && ltb w.begin (half (form v).begin_bytes))) k in
        let d = both (code_tested w.code) (open_tested w.vsize && ltb w.begin (half (form v).begin_bytes)) b.1 in
        let e = both (open_tested w.vsize) (ltb w.begin (half (form v).begin_bytes)) d.1 in
        let n = name-tell w.name w.chars h b.0 in
        record { short = n.0; name = (n.1, n.2); code = code-see w.code d.0; vsize = open-see w.vsize e.0; begin = ltb-true _ _ e.1 }

-- the parts of the words of tables
pub record WordsAre (s : List ℕ) (t : Tables) : Type 0 where
  pub version : (t.version ≡ 1) ⊎ (t.version ≡ 2)
  pub word : (t.word < half 4) ⊎ (t.word ≡ indeterminate 4)
  pub dims : (i : ℕ) → i < t.ndims → dim_tested s (dim_at t i) ≡ true
  pub globals : (i : ℕ) → i < t.globals → attr_tested s (attr_at t i) ≡ true
  pub vars : (i : ℕ) → i < t.nvars → var_tested s t.version (var_at t i) ≡ true
  pub attrs : (i : ℕ) → i < t.nvars → (j : ℕ) → j < (var_at t i).attrs → attr_tested s (attr_at t ((var_at t i).first + j)) ≡ true

module _ (s : List ℕ) (t : Tables) where
  -- the tests of the words, of the dimensions, of the global attributes, of the variables
  abbrev pub WordsTested : Type 0
  WordsTested = (admits both_versions t.version ≡ true) × (open_tested t.word ≡ true) × (dims_tested s t ≡ true) × (attrs_tested s t.attrs 0 t.globals ≡ true) × (vars_tested s t ≡ true)

  pub words-tell : WordsAre s t → WordsTested
  unfolding dims_tested attrs_tested vars_tested
  words-tell k = (
    version-tell t.version k.version,
    open-tell t.word k.word,
    all_hold (λ i. dim_tested s (dim_at t i)) t.ndims k.dims,
    all_hold (λ j. attr_tested s (attr_at t (0 + j))) t.globals (λ j l. subst (λ (n : ℕ). attr_tested s (attr_at t n) ≡ true) (sym (zero-add j)) (k.globals j l)),
    all_hold (λ i. var_all_tested s t (var_at t i)) t.nvars
        (λ i l. and (k.vars i l) (all_hold (λ j. attr_tested s (attr_at t ((var_at t i).first + j))) (var_at t i).attrs (k.attrs i l))),
  )

  pub words-see : WordsTested → WordsAre s t
  unfolding dims_tested attrs_tested vars_tested
  words-see k =
      record {
        version = version-see t.version k.0;
        word = open-see t.word k.1;
        dims = λ i l. holds_at (λ i. dim_tested s (dim_at t i)) t.ndims i k.2 l;
        globals = λ i l. subst (λ (n : ℕ). attr_tested s (attr_at t n) ≡ true) (zero-add i) (holds_at (λ j. attr_tested s (attr_at t (0 + j))) t.globals i k.3 l);
        vars = λ i l. (each i (holds_at (λ i. var_all_tested s t (var_at t i)) t.nvars i k.4 l)).0;
        attrs = λ i l. (each i (holds_at (λ i. var_all_tested s t (var_at t i)) t.nvars i k.4 l)).1;
      }
    where
      each : (i : ℕ) → var_all_tested s t (var_at t i) ≡ true → (var_tested s t.version (var_at t i) ≡ true) × ((j : ℕ) → j < (var_at t i).attrs → attr_tested s (attr_at t ((var_at t i).first + j)) ≡ true)
      each i k =
          let a = both (var_tested s t.version (var_at t i)) (all_below (var_at t i).attrs (λ j. attr_tested s (attr_at t ((var_at t i).first + j)))) k in
          (a.0, λ j l. holds_at (λ j. attr_tested s (attr_at t ((var_at t i).first + j))) (var_at t i).attrs j a.1 l)

-- the rows of the global attributes start at 0
pub tested-from-zero : (s : List ℕ) (rows : List Attr) (i : ℕ) {b : Bool} → attr_tested s (get_or rows i no_attr) ≡ b → attr_tested s (get_or rows (0 + i) no_attr) ≡ b
tested-from-zero s rows i e = ap (λ k. attr_tested s (get_or rows k no_attr)) (zero-add i) ∙ e
