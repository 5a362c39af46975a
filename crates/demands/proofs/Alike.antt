-- Tables that say the same are judged alike: rules 11 to 15 look at names by their bytes and at numbers, never at places.
use Prim.Native.Nat.{ℕ, zero, suc, ◌+◌, ◌-◌, ◌*◌, ◌<◌}
use native.Mathlib.Omega.{arith}
use mathlib.Core.Path.{◌≡◌, refl, sym, ap, ◌∙◌}
use mathlib.Core.Bool.{Bool, true, false, cond, ◌&&◌, not}
use mathlib.Core.List.{List}
use lib.ListN.{get_or}
use lib.Dec.{ltb, leb, eqb}
use borrow.Author.Tests.{eqb-true, ltb-true}
use Rattle.cdf.specs.Below.{all_below, any_below}
use Rattle.cdf.proofs.Laws.Below.{both, holds_at}
use Rattle.cdf.specs.Form.{form}
use Rattle.cdf.specs.Padding.{padding}
use Rattle.cdf.specs.Word.{indeterminate}
use Rattle.items.specs.Name.{same_bytes}
use Rattle.items.specs.Types.{size_of}
use Rattle.grammar.specs.Tables.{no_dim, dim_at, var_at, id_at}
use Rattle.grammar.specs.declared.tables.Var.{Var}
use Rattle.grammar.specs.declared.tables.Tables.{Tables}
use Rattle.model.specs.declared.names.Span.{Span}
use Rattle.model.specs.Model.{same_name, is_new, distinct, dim_names, var_names, attr_names, names_hold, is_unlimited, one_unlimited, id_holds, ids_hold, model_holds}
use Rattle.convert.proofs.Laws.Read.{total-same}
use Rattle.sizes.specs.Records.{product, total, smallest, length_at, is_record, outer, chunk, chunk_bytes, padded_bytes, record_part, record_size, max_position, max_chunk, sizes_hold, end_of, ends_hold}
use Rattle.sizes.specs.Count.{has_unlimited, has_records, is_open, first_begin, record_count}

-- what is the same below n
pub all_same : (p q : ℕ → Bool) (n : ℕ) → ((k : ℕ) → k < n → p k ≡ q k) → all_below n p ≡ all_below n q
unfolding all_below
all_same p q zero h = refl
all_same p q (suc n) h = rw (all_same p q n (λ k l. h k (omega arith)), h n (omega arith))

pub any_same : (p q : ℕ → Bool) (n : ℕ) → ((k : ℕ) → k < n → p k ≡ q k) → any_below n p ≡ any_below n q
unfolding any_below
any_same p q zero h = refl
any_same p q (suc n) h = rw (any_same p q n (λ k l. h k (omega arith)), h n (omega arith))

product-same : (g h : ℕ → ℕ) (n : ℕ) → ((k : ℕ) → k < n → g k ≡ h k) → product g n ≡ product h n
unfolding product
product-same g h zero e = refl
product-same g h (suc n) e = rw (product-same g h n (λ k l. e k (omega arith)), e n (omega arith))

pub smallest-same : (p q : ℕ → Bool) (g h : ℕ → ℕ) (d n : ℕ) → ((k : ℕ) → k < n → (p k ≡ q k) × (g k ≡ h k)) → smallest p g d n ≡ smallest q h d n
unfolding smallest
smallest-same p q g h d zero e = refl
smallest-same p q g h d (suc n) e = rw (smallest-same p q g h d n (λ k l. e k (omega arith)), (e n (omega arith)).0, (e n (omega arith)).1)

module _ (s s' : List ℕ) where
  -- the same bytes at two places
  pub record SameText (a b : Span) : Type 0 where
    pub chars : a.chars ≡ b.chars
    pub bytes : (k : ℕ) → k < a.chars → get_or s (a.at + k) 0 ≡ get_or s' (b.at + k) 0

  names_same : (a b a' b' : Span) → SameText a a' → SameText b b' → same_name s a b ≡ same_name s' a' b'
  unfolding same_name same_bytes
  names_same a b a' b' f g = by (eqb a.chars b.chars) refl
    where
      by : (c : Bool) → eqb a.chars b.chars ≡ c
          → (eqb a.chars b.chars && all_below a.chars (λ k. eqb (get_or s (a.at + k) 0) (get_or s (b.at + k) 0)))
          ≡ (eqb a'.chars b'.chars && all_below a'.chars (λ k. eqb (get_or s' (a'.at + k) 0) (get_or s' (b'.at + k) 0)))
      by true q =
          let e = eqb-true a.chars b.chars q in
          rw (
            ← f.chars,
            ← g.chars,
            all_same (λ k. eqb (get_or s (a.at + k) 0) (get_or s (b.at + k) 0)) (λ k. eqb (get_or s' (a'.at + k) 0) (get_or s' (b'.at + k) 0)) a.chars
                (λ k l. rw (f.bytes k l, g.bytes k (omega arith))),
          )
      by false q = rw (← f.chars, ← g.chars, q)

  pub distinct-same : (names names' : ℕ → Span) (n : ℕ) → ((i : ℕ) → i < n → SameText (names i) (names' i)) → distinct s names n ≡ distinct s' names' n
  unfolding distinct is_new
  distinct-same names names' n h =
      all_same (is_new s names) (is_new s' names') n (λ i l.
      let any = any_same (λ j. same_name s (names j) (names i)) (λ j. same_name s' (names' j) (names' i)) i (λ j m. names_same (names j) (names i) (names' j) (names' i) (h j (omega arith)) (h i l)) in
      ap (λ (b : Bool). ltb 0 (names i).chars && not b) any ∙ ap (λ (n : ℕ). ltb 0 n && not (any_below i (λ j. same_name s' (names' j) (names' i)))) (h i l).chars)

  -- a variable, and its attributes by their names
  pub record AlikeVar (t t' : Tables) (v v' : Var) : Type 0 where
    pub name : SameText (record { at = v.name; chars = v.chars }) (record { at = v'.name; chars = v'.chars })
    pub rank : v.rank ≡ v'.rank
    pub ids : (k : ℕ) → k < v.rank → id_at v k ≡ id_at v' k
    pub attrs : v.attrs ≡ v'.attrs
    pub rows : (j : ℕ) → j < v.attrs → SameText (attr_names t v.first j) (attr_names t' v'.first j)
    pub code : v.code ≡ v'.code
    pub begin : v.begin ≡ v'.begin

  pub record Alike (t t' : Tables) : Type 0 where
    pub version : t.version ≡ t'.version
    pub word : t.word ≡ t'.word
    pub size : t.size ≡ t'.size
    pub ndims : t.ndims ≡ t'.ndims
    pub dim_texts : (i : ℕ) → i < t.ndims → SameText (dim_names t i) (dim_names t' i)
    pub lengths : (i : ℕ) → i < t.ndims → (dim_at t i).length ≡ (dim_at t' i).length
    pub globals : t.globals ≡ t'.globals
    pub global_texts : (i : ℕ) → i < t.globals → SameText (attr_names t 0 i) (attr_names t' 0 i)
    pub nvars : t.nvars ≡ t'.nvars
    pub vars : (i : ℕ) → i < t.nvars → AlikeVar t t' (var_at t i) (var_at t' i)

  module _ {t t' : Tables} (k : Alike t t') where
    unlimited-same : (i : ℕ) → i < t.ndims → is_unlimited t i ≡ is_unlimited t' i
    unlimited-same i l = ap (λ (n : ℕ). eqb n 0) (k.lengths i l)

    -- rule 11
    pub model-same : model_holds s t ≡ model_holds s' t'
    unfolding model_holds names_hold one_unlimited ids_hold id_holds
    model-same =
        let dims = distinct-same (dim_names t) (dim_names t') t.ndims k.dim_texts in
        let vars = distinct-same (var_names t) (var_names t') t.nvars (λ i l. (k.vars i l).name) in
        let globals = distinct-same (attr_names t 0) (attr_names t' 0) t.globals k.global_texts in
        let rows : all_below t.nvars (λ i. distinct s (attr_names t (var_at t i).first) (var_at t i).attrs) ≡ all_below t.nvars (λ i. distinct s' (attr_names t' (var_at t' i).first) (var_at t' i).attrs) =
        all_same _ _ t.nvars (λ i l. let v = k.vars i l in distinct-same (attr_names t (var_at t i).first) (attr_names t' (var_at t' i).first) (var_at t i).attrs v.rows ∙ ap (distinct s' (attr_names t' (var_at t' i).first)) v.attrs) in
        let one : all_below t.ndims (λ i. not (is_unlimited t i && any_below i (is_unlimited t))) ≡ all_below t.ndims (λ i. not (is_unlimited t' i && any_below i (is_unlimited t'))) =
        all_same _ _ t.ndims (λ i l. rw (unlimited-same i l, any_same (is_unlimited t) (is_unlimited t') i (λ j m. unlimited-same j (omega arith)))) in
        let ids : all_below t.nvars (λ i. all_below (var_at t i).rank (id_holds t (var_at t i))) ≡ all_below t.nvars (λ i. all_below (var_at t' i).rank (id_holds t' (var_at t' i))) =
        all_same _ _ t.nvars (λ i l. let v = k.vars i l in all_same _ _ (var_at t i).rank (λ j m. id_same (var_at t i) (var_at t' i) j (v.ids j m)) ∙ ap (λ (n : ℕ). all_below n (id_holds t' (var_at t' i))) v.rank) in
        let a = k.ndims in
        let b = k.nvars in
        let c = k.globals in
        rw (dims, vars, globals, rows, one, ids, a, b, c)
      where
        id_same : (v v' : Var) (j : ℕ) → id_at v j ≡ id_at v' j → id_holds t v j ≡ id_holds t' v' j
        id_same v v' j e = by (ltb (id_at v j) t.ndims) refl
          where
            by : (c : Bool) → ltb (id_at v j) t.ndims ≡ c → id_holds t v j ≡ id_holds t' v' j
            by true q = rw (← e, ← k.ndims, q, unlimited-same (id_at v j) (ltb-true _ _ q))
            by false q = rw (← e, ← k.ndims, q)

    -- the numbers that rules 12 to 15 look at, once the ids hold
    module _ (holds : ids_hold t ≡ true) where
      length-same : (i j : ℕ) → i < t.nvars → j < (var_at t i).rank → length_at t.dims (var_at t i) j ≡ length_at t'.dims (var_at t' i) j
      unfolding ids_hold id_holds
      length-same i j l m =
          let v = k.vars i l in
          let h = holds_at (id_holds t (var_at t i)) (var_at t i).rank j (holds_at _ t.nvars i holds l) m in
          let low = ltb-true _ _ (both (ltb (id_at (var_at t i) j) t.ndims) _ h).0 in
          k.lengths (id_at (var_at t i) j) low ∙ ap (λ (n : ℕ). (get_or t'.dims n no_dim).length) (v.ids j m)

      pub record_same : (i : ℕ) → i < t.nvars → is_record t.dims (var_at t i) ≡ is_record t'.dims (var_at t' i)
      unfolding is_record
      record_same i l = by (ltb 0 (var_at t i).rank) refl
        where
          by : (c : Bool) → ltb 0 (var_at t i).rank ≡ c → (ltb 0 (var_at t i).rank && eqb (length_at t.dims (var_at t i) 0) 0) ≡ (ltb 0 (var_at t' i).rank && eqb (length_at t'.dims (var_at t' i) 0) 0)
          by true q = ap (λ (n : ℕ). ltb 0 (var_at t i).rank && eqb n 0) (length-same i 0 l (ltb-true _ _ q)) ∙ ap (λ (n : ℕ). ltb 0 n && eqb (length_at t'.dims (var_at t' i) 0) 0) (k.vars i l).rank
          by false q = let p : ltb 0 (var_at t' i).rank ≡ false = ap (ltb 0) (sym (k.vars i l).rank) ∙ q in rw (p, q)

      pub chunk-same : (i : ℕ) → i < t.nvars → chunk t.dims (var_at t i) ≡ chunk t'.dims (var_at t' i)
      unfolding chunk
      chunk-same i l =
          let o : outer t.dims (var_at t i) ≡ outer t'.dims (var_at t' i) = ap (λ (b : Bool). cond b 1 0) (record_same i l) in
          product-same (λ j. length_at t.dims (var_at t i) (outer t.dims (var_at t i) + j)) (λ j. length_at t'.dims (var_at t' i) (outer t.dims (var_at t i) + j)) ((var_at t i).rank - outer t.dims (var_at t i))
          (λ j m. length-same i (outer t.dims (var_at t i) + j) l (omega arith))
          ∙ ap (λ (n : ℕ). product (λ j. length_at t'.dims (var_at t' i) (n + j)) ((var_at t i).rank - n)) o
          ∙ ap (λ (n : ℕ). product (λ j. length_at t'.dims (var_at t' i) (outer t'.dims (var_at t' i) + j)) (n - outer t'.dims (var_at t' i))) (k.vars i l).rank

      padded-same : (i : ℕ) → i < t.nvars → padded_bytes t.dims (var_at t i) ≡ padded_bytes t'.dims (var_at t' i)
      unfolding padded_bytes chunk_bytes
      padded-same i l = ap (λ (n : ℕ). n * size_of (var_at t i).code + padding (n * size_of (var_at t i).code)) (chunk-same i l) ∙ ap (λ (c : ℕ). chunk t'.dims (var_at t' i) * size_of c + padding (chunk t'.dims (var_at t' i) * size_of c)) (k.vars i l).code

      pub step_same : record_size t ≡ record_size t'
      unfolding record_size
      step_same =
          total-same (λ i. record_part t.dims (var_at t i)) (λ i. record_part t'.dims (var_at t' i)) t.nvars
          (λ i l. ap (λ (b : Bool). cond b (padded_bytes t.dims (var_at t i)) 0) (record_same i l) ∙ ap (λ (n : ℕ). cond (is_record t'.dims (var_at t' i)) n 0) (padded-same i l))
          ∙ ap (total (λ i. record_part t'.dims (var_at t' i))) k.nvars

      pub sizes-same : sizes_hold t ≡ sizes_hold t'
      unfolding sizes_hold
      sizes-same =
          let all = all_same (λ i. leb (var_at t i).begin max_position && leb (padded_bytes t.dims (var_at t i)) max_chunk) (λ i. leb (var_at t' i).begin max_position && leb (padded_bytes t'.dims (var_at t' i)) max_chunk) t.nvars
          (λ i l. ap (λ (n : ℕ). leb n max_position && leb (padded_bytes t.dims (var_at t i)) max_chunk) (k.vars i l).begin ∙ ap (λ (n : ℕ). leb (var_at t' i).begin max_position && leb n max_chunk) (padded-same i l)) in
          ap (λ (b : Bool). b && leb (record_size t) max_chunk) (all ∙ ap (λ (n : ℕ). all_below n (λ i. leb (var_at t' i).begin max_position && leb (padded_bytes t'.dims (var_at t' i)) max_chunk)) k.nvars)
          ∙ ap (λ (n : ℕ). all_below t'.nvars (λ i. leb (var_at t' i).begin max_position && leb (padded_bytes t'.dims (var_at t' i)) max_chunk) && leb n max_chunk) step_same

      end_same : (n i : ℕ) → i < t.nvars → end_of t n (var_at t i) ≡ end_of t' n (var_at t' i)
      end_same n i l =
          let b = (k.vars i l).begin in
          let p = padded-same i l in
          let q = step_same in
          ap (λ (x : ℕ). cond (is_record t.dims (var_at t i)) (cond (eqb n 0) x (x + (n - 1) * record_size t + padded_bytes t.dims (var_at t i))) (x + padded_bytes t.dims (var_at t i))) b
          ∙ ap (λ (x : ℕ). cond (is_record t.dims (var_at t i)) (cond (eqb n 0) (var_at t' i).begin ((var_at t' i).begin + (n - 1) * record_size t + x)) ((var_at t' i).begin + x)) p
          ∙ ap (λ (x : ℕ). cond (is_record t.dims (var_at t i)) (cond (eqb n 0) (var_at t' i).begin ((var_at t' i).begin + (n - 1) * x + padded_bytes t'.dims (var_at t' i))) ((var_at t' i).begin + padded_bytes t'.dims (var_at t' i))) q
          ∙ ap (λ (c : Bool). cond c (cond (eqb n 0) (var_at t' i).begin ((var_at t' i).begin + (n - 1) * record_size t' + padded_bytes t'.dims (var_at t' i))) ((var_at t' i).begin + padded_bytes t'.dims (var_at t' i))) (record_same i l)

      pub ends_same : (n : ℕ) → ends_hold t n ≡ ends_hold t' n
      unfolding ends_hold
      ends_same n =
          all_same (λ i. leb (end_of t n (var_at t i)) max_position) (λ i. leb (end_of t' n (var_at t' i)) max_position) t.nvars (λ i l. ap (λ (x : ℕ). leb x max_position) (end_same n i l))
          ∙ ap (λ (m : ℕ). all_below m (λ i. leb (end_of t' n (var_at t' i)) max_position)) k.nvars

      first-same : first_begin t ≡ first_begin t'
      unfolding first_begin
      first-same =
          smallest-same (λ i. is_record t.dims (var_at t i)) (λ i. is_record t'.dims (var_at t' i)) (λ i. (var_at t i).begin) (λ i. (var_at t' i).begin) max_position t.nvars (λ i l. (record_same i l, (k.vars i l).begin))
          ∙ ap (smallest (λ i. is_record t'.dims (var_at t' i)) (λ i. (var_at t' i).begin) max_position) k.nvars

      pub count_same : record_count t ≡ record_count t'
      unfolding record_count has_unlimited has_records
      count_same =
          let u : any_below t.ndims (is_unlimited t) ≡ any_below t'.ndims (is_unlimited t') = any_same (is_unlimited t) (is_unlimited t') t.ndims unlimited-same ∙ ap (λ (n : ℕ). any_below n (is_unlimited t')) k.ndims in
          let o : is_open t ≡ is_open t' = ap (λ (w : ℕ). eqb w (indeterminate (form t.version).word_bytes)) k.word ∙ ap (λ (v : ℕ). eqb t'.word (indeterminate (form v).word_bytes)) k.version in
          let r : any_below t.nvars (λ i. is_record t.dims (var_at t i)) ≡ any_below t'.nvars (λ i. is_record t'.dims (var_at t' i)) =
          any_same (λ i. is_record t.dims (var_at t i)) (λ i. is_record t'.dims (var_at t' i)) t.nvars record_same ∙ ap (λ (n : ℕ). any_below n (λ i. is_record t'.dims (var_at t' i))) k.nvars in
          rw (u, o, r, first-same, step_same, k.size, k.word)
