-- Laws of chunks, record sizes and ends.
use Prim.Native.Nat.{ℕ, zero, suc, ◌+◌, ◌-◌, ◌*◌, ◌≤◌, ◌<◌, max}
use native.Mathlib.Omega.{arith}
use native.Mathlib.Numerals.{add-one}
use native.Mathlib.Nat.{le_trans, mul-pos, le-max_left, le-max_right, max-le, not-suc-le-zero, le_of_suc-le-suc, eq-or-lt_of_le}
use mathlib.Core.Path.{◌≡◌, refl, sym, ap, ◌∙◌}
use mathlib.Core.Logic.{⊎_elim}
use mathlib.Core.Bool.{Bool, true, false, cond, ◌||◌, not, and-false, false≢true}
use mathlib.Core.List.{List}
use lib.Dec.{ltb, leb, eqb}
use borrow.Author.Tests.{lt-ltb, le-ltb, le-leb, lt-leb, eq-eqb, ne_eqb, ltb-true, leb-true}
use Rattle.cdf.specs.Below.{all_below}
use Rattle.cdf.specs.Padding.{padding}
use Rattle.items.specs.Types.{size_of}
use Rattle.items.proofs.Laws.Types.{size-pos}
use Rattle.cdf.proofs.Laws.Below.{order, both, all_hold, one-fails, holds_at}
use Rattle.grammar.specs.Tables.{var_at, id_at, dim_at}
use Rattle.grammar.specs.Inner.Within.{Shaped}
use Rattle.model.specs.Model.{id_holds, ids_hold}
use Rattle.sizes.specs.Records.{product, total, length_at, is_record, outer, chunk, chunk_bytes, padded_bytes, record_part, record_size, max_position, max_chunk, sizes_hold}
use Rattle.sizes.specs.Inner.Sizes.{placed, capped, largest, still_holds}
use Rattle.grammar.specs.declared.tables.Dim.{Dim}
use Rattle.grammar.specs.declared.tables.Var.{Var}
use Rattle.grammar.specs.declared.tables.Tables.{Tables}
use Rattle.sizes.specs.declared.records.Sizes.{Sizes}

-- a number that is capped
pub capped-in : (x : ℕ) → x ≤ max_chunk → capped x ≡ x
capped-in x h = rw (le-leb x max_chunk h)

pub capped-over : (x : ℕ) → max_chunk < x → capped x ≡ max_chunk + 1
capped-over x h = rw (lt-leb x max_chunk h)

-- a capped number is one above the limit at most
pub capped-most : (x : ℕ) → capped x ≤ max_chunk + 1
capped-most x = ⊎_elim (λ (l : x ≤ max_chunk). let e = capped-in x l in omega arith) (λ (l : max_chunk < x). let e = capped-over x l in omega arith) (order x max_chunk)

-- and stands for itself where it is no more
pub capped-self : (x : ℕ) → x ≤ max_chunk + 1 → x ≡ capped x
capped-self x h = ⊎_elim (λ (l : x ≤ max_chunk). sym (capped-in x l)) (λ (l : max_chunk < x). let e : x ≡ max_chunk + 1 = omega arith in e ∙ sym (capped-over x l)) (order x max_chunk)

-- what a capped number within the limit stands for
pub capped_is : {a : ℕ} (x : ℕ) → a ≡ capped x → a ≤ max_chunk → a ≡ x
capped_is x e h =
    ⊎_elim (λ (l : x ≤ max_chunk). e ∙ capped-in x l) (λ (l : max_chunk < x). let f = e ∙ capped-over x l in omega arith) (order x max_chunk)

-- what one above it stands for
pub capped-above : {a : ℕ} (x : ℕ) → a ≡ capped x → max_chunk < a → max_chunk < x
capped-above x e h = ⊎_elim (λ (l : x ≤ max_chunk). let f = e ∙ capped-in x l in omega arith) (λ (l : max_chunk < x). l) (order x max_chunk)

-- of two numbers that are capped alike
module _ (p q : ℕ) (alike : capped p ≡ capped q) where
  pub capped_same : p ≤ max_chunk → p ≡ q
  capped_same h = capped_is q (sym (capped-in p h) ∙ alike) h

  pub capped-both : max_chunk < p → max_chunk < q
  capped-both h = capped-above q (sym (capped-over p h) ∙ alike) (omega arith)

-- padded bytes, by the bytes at hand
pub padded-by : (b x w s : ℕ) {p : ℕ} → b ≡ capped (x * w) → p ≡ padding b → w ≡ s → capped (b + p) ≡ capped (x * s + padding (x * s))
padded-by b x w s {p} e f g =
    ap (λ (n : ℕ). capped (b + n)) f ∙ alike (x * w) e ∙ ap (λ (n : ℕ). capped (x * n + padding (x * n))) g
  where
    alike : (y : ℕ) → b ≡ capped y → capped (b + padding b) ≡ capped (y + padding y)
    alike y e =
        ⊎_elim
        (λ (l : y ≤ max_chunk). ap (λ (n : ℕ). capped (n + padding n)) (e ∙ capped-in y l))
        (λ (l : max_chunk < y). let f = e ∙ capped-over y l in capped-over (b + padding b) (omega arith) ∙ sym (capped-over (y + padding y) (omega arith)))
        (order y max_chunk)

module _ (ds : List Dim) (v : Var) where
  -- the dimensions outside the chunk are some of the variable's
  pub outer-within : outer ds v ≤ v.rank
  unfolding is_record
  outer-within = ⊎_elim (λ (h : v.rank ≤ 0). rw (le-ltb 0 v.rank h) (omega arith)) (λ (h : 0 < v.rank). most h (is_record ds v)) (order v.rank 0)
    where
      most : 0 < v.rank → (t : Bool) → cond t 1 0 ≤ v.rank
      most h true = h
      most h false = omega arith

  -- the product of the first lengths of a chunk
  abbrev pub first_lengths : ℕ → ℕ
  first_lengths n = product (λ k. length_at ds v (outer ds v + k)) n

  pub lengths_none : 1 ≡ capped (first_lengths 0)
  unfolding product
  lengths_none = refl

  pub lengths-more : {p : ℕ} (i : ℕ) → ((x : ℕ) → capped (first_lengths i) ≡ capped x → p ≡ capped (x * length_at ds v (outer ds v + i))) → p ≡ capped (first_lengths (i + 1))
  unfolding product
  lengths-more i e = rw add-one (e (first_lengths i) refl)

  pub lengths-all : {i : ℕ} → i ≡ v.rank - outer ds v → capped (first_lengths i) ≡ capped (chunk ds v)
  unfolding chunk
  lengths-all e = ap (λ (n : ℕ). capped (first_lengths n)) e

  pub padded-is : capped (chunk ds v * size_of v.code + padding (chunk ds v * size_of v.code)) ≡ capped (padded_bytes ds v)
  unfolding padded_bytes chunk_bytes
  padded-is = refl

-- ---- every length of a chunk, and so a chunk, is at least 1 where the ids hold
product-pos : (g : ℕ → ℕ) (n : ℕ) → ((k : ℕ) → k < n → 0 < g k) → 0 < product g n
unfolding product
product-pos g zero h = omega arith
product-pos g (suc n) h = mul-pos (product-pos g n (λ k l. h k (omega arith))) (h n (omega arith))

holds-below : (t : Tables) (v : Var) (k : ℕ) → id_holds t v k ≡ true → id_at v k < t.ndims
unfolding id_holds
holds-below t v k e = ltb-true (id_at v k) t.ndims (both (ltb (id_at v k) t.ndims) _ e).0

holds-fixed : (t : Tables) (v : Var) (k : ℕ) → id_holds t v k ≡ true → 0 < k → length_at t.dims v k ≡ 0 → ⊥
unfolding id_holds
holds-fixed t v k e p z =
    let r = (both (ltb (id_at v k) t.ndims) _ e).1 in
    let f : (eqb k 0 || not (eqb (dim_at t (id_at v k)).length 0)) ≡ false = rw (ne_eqb k 0 (λ q. omega arith), eq-eqb (dim_at t (id_at v k)).length 0 z) in
    let n : ◌≡◌ {A = Bool} true false = sym r ∙ f in
    let m : ◌≡◌ {A = ℕ} 0 1 = cc in
    omega arith

module _ (t : Tables) (ids : ids_hold t ≡ true) (i : ℕ) (inside : i < t.nvars) where
  own : (k : ℕ) → k < (var_at t i).rank → id_holds t (var_at t i) k ≡ true
  unfolding ids_hold
  own k l = holds_at (id_holds t (var_at t i)) (var_at t i).rank k (holds_at _ t.nvars i ids inside) l

  pub id_below : (k : ℕ) → k < (var_at t i).rank → id_at (var_at t i) k < t.ndims
  id_below k l = holds-below t (var_at t i) k (own k l)

  pub ids-below : t.ndims ≤ 32 → (k : ℕ) → k < (var_at t i).rank → id_at (var_at t i) k < 32
  ids-below h k l = let b = id_below k l in omega arith

  -- a length inside the chunk is not 0
  inner : (k : ℕ) → outer t.dims (var_at t i) + k < (var_at t i).rank → length_at t.dims (var_at t i) (outer t.dims (var_at t i) + k) ≡ 0 → ⊥
  unfolding is_record
  inner k l z =
      ⊎_elim
      (λ (h : outer t.dims (var_at t i) + k ≤ 0).
      let e : outer t.dims (var_at t i) + k ≡ 0 = omega arith in
      let o : outer t.dims (var_at t i) ≡ 0 = omega arith in
      let first : length_at t.dims (var_at t i) 0 ≡ 0 = sym (ap (length_at t.dims (var_at t i)) e) ∙ z in
      let one : outer t.dims (var_at t i) ≡ 1 = rw (lt-ltb 0 (var_at t i).rank (omega arith), eq-eqb (length_at t.dims (var_at t i) 0) 0 first) in
      omega arith)
      (λ (h : 0 < outer t.dims (var_at t i) + k). holds-fixed t (var_at t i) _ (own _ l) h z)
      (order (outer t.dims (var_at t i) + k) 0)

  pub padded-pos : Shaped t → 0 < padded_bytes t.dims (var_at t i)
  unfolding padded_bytes chunk_bytes chunk
  padded-pos shape =
      let p =
      mul-pos (product-pos (λ k. length_at t.dims (var_at t i) (outer t.dims (var_at t i) + k)) ((var_at t i).rank - outer t.dims (var_at t i)) (λ k l. let z = inner k (omega arith) in positive _ z))
      (size-pos (var_at t i).code (shape.rows i inside).low (shape.rows i inside).high) in
      omega arith
    where
      positive : (n : ℕ) → (n ≡ 0 → ⊥) → 0 < n
      positive zero z = absurd (z refl)
      positive (suc n) z = omega arith

-- ---- sums
pub total-more : (g : ℕ → ℕ) (n : ℕ) → total g (n + 1) ≡ total g n + g n
unfolding total
total-more g n = rw add-one

pub total-grows : (g : ℕ → ℕ) (m n : ℕ) → m ≤ n → total g m ≤ total g n
unfolding total
total-grows g m zero h = let e : m ≡ 0 = omega arith in rw e (omega arith)
total-grows g m (suc n) h =
    ⊎_elim (λ (l : m ≤ n). let r = total-grows g m n l in omega arith) (λ (l : n < m). let e : m ≡ suc n = omega arith in rw e (omega arith)) (order m n)

-- ---- rule 12
module _ (t : Tables) where
  -- what the i-th variable adds to a record
  abbrev pub part : ℕ → ℕ
  part i = record_part t.dims (var_at t i)

  pub placed-if : (i : ℕ) → (var_at t i).begin ≤ max_position → padded_bytes t.dims (var_at t i) ≤ max_chunk → placed t i ≡ true
  placed-if i h l = rw (le-leb (var_at t i).begin max_position h, le-leb (padded_bytes t.dims (var_at t i)) max_chunk l)

  pub sizes_begin : (i : ℕ) → i < t.nvars → max_position < (var_at t i).begin → false ≡ sizes_hold t
  unfolding sizes_hold
  sizes_begin i l h = sym (rw (one-fails (placed t) t.nvars i l (rw (lt-leb (var_at t i).begin max_position h))))

  pub sizes-chunk : (i : ℕ) → i < t.nvars → max_chunk < padded_bytes t.dims (var_at t i) → false ≡ sizes_hold t
  unfolding sizes_hold
  sizes-chunk i l h =
      sym (rw (one-fails (placed t) t.nvars i l (rw (lt-leb (padded_bytes t.dims (var_at t i)) max_chunk h) (and-false (leb (var_at t i).begin max_position)))))

  pub sizes-sum : (i : ℕ) → i ≤ t.nvars → max_chunk < total part i → false ≡ sizes_hold t
  unfolding sizes_hold record_size
  sizes-sum i l h =
      let g = total-grows (λ k. record_part t.dims (var_at t k)) i t.nvars l in
      sym (rw (lt-leb (record_size t) max_chunk (omega arith)) (and-false (all_below t.nvars (placed t))))

  pub sizes-all : ((i : ℕ) → i < t.nvars → placed t i ≡ true) → record_size t ≤ max_chunk → true ≡ sizes_hold t
  unfolding sizes_hold
  sizes-all h l = sym (rw (all_hold (placed t) t.nvars h, le-leb (record_size t) max_chunk l))

  module _ (sizes : sizes_hold t ≡ true) (i : ℕ) (inside : i < t.nvars) where
    here : (leb (var_at t i).begin max_position ≡ true) × (leb (padded_bytes t.dims (var_at t i)) max_chunk ≡ true)
    unfolding sizes_hold
    here = both _ _ (holds_at (placed t) t.nvars i (both (all_below t.nvars (placed t)) (leb (record_size t) max_chunk) sizes).0 inside)

    pub begin-in : (var_at t i).begin ≤ max_position
    begin-in = leb-true _ _ here.0

    pub chunk_in : padded_bytes t.dims (var_at t i) ≤ max_chunk
    chunk_in = leb-true _ _ here.1

  pub sum-in : sizes_hold t ≡ true → record_size t ≤ max_chunk
  unfolding sizes_hold
  sum-in sizes = leb-true _ _ (both (all_below t.nvars (placed t)) (leb (record_size t) max_chunk) sizes).1

pub never : (X : Type 0) → ◌≡◌ {A = Bool} false true → X
never X e = absurd (false≢true e)

-- ---- one variable more
module _ (z : Sizes) (records : Bool) (begin padded : ℕ) where
  pub still-step : begin ≤ max_position → padded ≤ max_chunk → leb (z.step + cond records padded 0) max_chunk ≡ still_holds z records begin padded
  still-step h l = rw (le-leb begin max_position h, le-leb padded max_chunk l)

  -- what holds where rule 12 still does
  pub still-is : still_holds z records begin padded ≡ true → (begin ≤ max_position) × (padded ≤ max_chunk) × (z.step + cond records padded 0 ≤ max_chunk)
  still-is e =
      let a = both (leb begin max_position) _ e in
      let b = both (leb padded max_chunk) (leb (z.step + cond records padded 0) max_chunk) a.1 in
      (leb-true _ _ a.0, leb-true _ _ b.0, leb-true _ _ b.1)

-- ---- the largest
module _ (p : ℕ → Bool) (g : ℕ → ℕ) where
  pub largest-above : (n i : ℕ) → i < n → p i ≡ true → g i ≤ largest p g n
  unfolding largest
  largest-above zero i l e = absurd (not-suc-le-zero l)
  largest-above (suc n) i l e =
      ⊎_elim
      (λ (q : i ≡ n). let f : p n ≡ true = ap p (sym q) ∙ e in rw (f, q) (le-max_right (largest p g n) (g n)))
      (λ (q : i < n). kept (p n) (largest-above n i q e))
      (eq-or-lt_of_le (le_of_suc-le-suc l))
    where
      kept : (b : Bool) → g i ≤ largest p g n → g i ≤ cond b (max (largest p g n) (g n)) (largest p g n)
      kept true h = le_trans h (le-max_left (largest p g n) (g n))
      kept false h = h

  pub largest-below : (x n : ℕ) → ((i : ℕ) → i < n → p i ≡ true → g i ≤ x) → largest p g n ≤ x
  unfolding largest
  largest-below x zero h = omega arith
  largest-below x (suc n) h = both_below (p n) refl (largest-below x n (λ i l. h i (omega arith)))
    where
      both_below : (b : Bool) → p n ≡ b → largest p g n ≤ x → cond b (max (largest p g n) (g n)) (largest p g n) ≤ x
      both_below true e l = max-le l (h n (omega arith) e)
      both_below false e l = l
