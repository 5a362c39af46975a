-- The record count is a function of the bytes and the size, and exact.
use Prim.Native.Nat.{ℕ, zero, suc, ◌+◌, ◌-◌, ◌*◌, ◌/◌, ◌%◌, ◌≤◌, ◌<◌, min}
use native.Mathlib.Omega.{arith}
use native.Mathlib.Nat.{div-add-mod', le_of_suc-le-suc, eq-or-lt_of_le, not-suc-le-zero, min-le_left, min-le_right, min-eq_left, min-eq_right, le_trans, le_of_lt}
use mathlib.Core.Logic.{⊎_elim}
use mathlib.Core.Path.{◌≡◌, refl, sym, ap, subst, ◌∙◌}
use mathlib.Core.Bool.{Bool, true, false}
use mathlib.Core.List.{List}
use borrow.Author.Tests.{leb-true, ltb-true, eqb-true}
use Rattle.header.specs.declared.reader.HeaderAnswer.{HeaderAnswer as Header}
use Rattle.cdf.specs.Step.{got, given_or}
use Rattle.cdf.specs.Below.{any_below}
use Rattle.cdf.specs.declared.version.Admitted.{Admitted}
use Rattle.cdf.proofs.Laws.Below.{order, both, none-at, none-holds, some_holds, first_some}
use Rattle.cdf.proofs.Laws.Step.{by-true, test-came, got_same, into-got}
use Rattle.grammar.specs.Tree.{Tree}
use Rattle.grammar.specs.Tables.{laid, with_count, var_at, id_at}
use Rattle.grammar.specs.declared.tables.Tables.{Tables}
use Rattle.grammar.specs.Inner.Within.{Shaped}
use Rattle.grammar.proofs.Laws.Within.{read-within, within-shaped}
use Rattle.model.specs.Model.{is_unlimited, ids_hold}
use Rattle.sizes.specs.Records.{smallest, is_record, record_size, max_position}
use Rattle.sizes.specs.Count.{has_unlimited, has_records, is_open, first_begin, record_count}
use Rattle.sizes.specs.Inner.Sizes.{divided}
use Rattle.model.proofs.Laws.Model.{model-has-ids}
use Rattle.sizes.proofs.Laws.Records.{begin-in, id_below}
use Rattle.sizes.proofs.Laws.Count.{records-positive}
use Rattle.header.proofs.Laws.Accepted.{Came, accepted-came, tree-size}
use Rattle.demands.specs.RecordCount.{CountOfBytes, OpenCount, SmallestBegin}

pub count-of-bytes : CountOfBytes
unfolding CountOfBytes
count-of-bytes s size a h e f z =
    let c = accepted-came s size a z in
    ap (λ (x : Header). x.tables.count) c.is ∙ ap (given_or 0) (c.counted.1 ∙ ap (λ (t : Tree). record_count (laid t)) (got_same (c.read ∙ sym f)))

unlike : ◌≡◌ {A = Bool} true false → ⊥
unlike z = let w : ◌≡◌ {A = ℕ} 0 1 = cc in omega arith

-- ---- the open count
exact : (size first step n p : ℕ) → got n p ≡ divided size first step → n * step + first ≡ size
unfolding divided
exact size first step n p e =
    let o = test-came 14 0 e in
    let i = test-came 13 0 o.1 in
    let h = leb-true first size o.0 in
    let r = eqb-true ((size - first) % step) 0 i.0 in
    let q = got_same i.1 in
    let d = div-add-mod' (size - first) step in
    let m : n * step ≡ (size - first) / step * step = ap (λ (k : ℕ). k * step) q in
    omega arith

module _ (t : Tables) where
  open-count : has_unlimited t ≡ true → is_open t ≡ true → has_records t ≡ true → divided t.size (first_begin t) (record_size t) ≡ record_count t
  unfolding record_count divided
  open-count a b c = by-true _ a (by-true _ b (by-true _ c refl))

  -- a record variable has an unlimited dimension
  module _ (ids : ids_hold t ≡ true) (some : has_records t ≡ true) where
    one : (i : ℕ) × (i < t.nvars) × (is_record t.dims (var_at t i) ≡ true)
    unfolding has_records
    one = let f = first_some (λ i. is_record t.dims (var_at t i)) t.nvars some in (_, f.0, f.1)

    has-unlimited : has_unlimited t ≡ true
    unfolding has_unlimited is_record
    has-unlimited =
        let i = one.0 in
        let b = both _ _ one.2 in
        some_holds (is_unlimited t) t.ndims (id_at (var_at t i) 0) (id_below t ids i one.1 0 (ltb-true _ _ b.0)) b.1

-- ---- of accepted tables
module _ (s : List ℕ) (size : ℕ) (a : Admitted) {h : Header} (c : Came s size a h) where
  read : Tables
  read = laid c.tree

  ids : ids_hold read ≡ true
  unfolding read
  ids = model-has-ids s (laid c.tree) c.model

  shape : Shaped read
  unfolding read
  shape = within-shaped (read-within a s size (into-got laid refl c.read))

  size_is : read.size ≡ size
  unfolding read laid
  size_is = tree-size s size a c.read

  counted : got c.count c.counted.0 ≡ record_count read
  unfolding read
  counted = c.counted.1

  fills : is_open read ≡ true → has_records read ≡ true → (0 < record_size read) × (c.count * record_size read + first_begin read ≡ size)
  fills isopen some =
      let e : got c.count c.counted.0 ≡ divided read.size (first_begin read) (record_size read) = counted ∙ sym (open-count read (has-unlimited read ids some) isopen some) in
      (records-positive read shape ids some, exact read.size (first_begin read) (record_size read) c.count _ e ∙ size_is)

pub open-is-exact : OpenCount
unfolding OpenCount record_size first_begin has_records read
open-is-exact s size a t (z, is) =
    let c = accepted-came s size a z in
    let same : with_count (read s size a c) c.count ≡ t = sym (ap (λ (x : Header). x.tables) c.is) ∙ is in
    subst (λ (x : Tables). is_open x ≡ true → has_records x ≡ true → (0 < record_size x) × (x.count * record_size x + first_begin x ≡ size)) same (fills s size a c)

-- ---- the smallest begin
module _ (p : ℕ → Bool) (g : ℕ → ℕ) (d : ℕ) where
  pub smallest-below : (n i : ℕ) → i < n → p i ≡ true → smallest p g d n ≤ g i
  unfolding smallest
  smallest-below zero i l e = absurd (not-suc-le-zero l)
  smallest-below (suc n) i l e = by (p n) refl (smallest-below n i)
    where
      by : (b : Bool) → p n ≡ b → (i < n → p i ≡ true → smallest p g d n ≤ g i) → smallest p g d (suc n) ≤ g i
      by true q before =
          rw q
          (⊎_elim
          (λ (k : i ≡ n). subst (λ (j : ℕ). min (smallest p g d n) (g n) ≤ g j) (sym k) (min-le_right _ _))
          (λ (k : i < n). le_trans (min-le_left _ _) (before k e))
          (eq-or-lt_of_le (le_of_suc-le-suc l)))
      by false q before =
          rw q
          (⊎_elim
          (λ (k : i ≡ n). let z : ◌≡◌ {A = Bool} true false = sym e ∙ ap p k ∙ q in absurd (unlike z))
          (λ (k : i < n). before k e)
          (eq-or-lt_of_le (le_of_suc-le-suc l)))

  -- with no such number, it is d
  smallest-none : (n : ℕ) → any_below n p ≡ false → smallest p g d n ≡ d
  unfolding smallest
  smallest-none zero e = refl
  smallest-none (suc n) e = rw (none-at p (suc n) n e (omega arith)) (smallest-none n (none-holds p n (λ k l. none-at p (suc n) k e (omega arith))))

  -- x is one of the numbers below m
  abbrev pub One : ℕ → ℕ → Type 0
  One m x = (i : ℕ) × (i < m) × (p i ≡ true) × (x ≡ g i)

  -- it is one of the numbers, where none is above d
  pub smallest-one : (n : ℕ) → ((i : ℕ) → i < n → p i ≡ true → g i ≤ d) → any_below n p ≡ true → One n (smallest p g d n)
  unfolding smallest any_below
  smallest-one zero h e = let z : ◌≡◌ {A = Bool} false true = e in absurd (unlike (sym z))
  smallest-one (suc n) h e = by (p n) refl (any_below n p) refl (smallest-one n (λ i l. h i (omega arith)))
    where
      by : (b : Bool) → p n ≡ b → (c : Bool) → any_below n p ≡ c → (any_below n p ≡ true → One n (smallest p g d n)) → One (suc n) (smallest p g d (suc n))
      by true q c r before =
          rw q
          (⊎_elim
          (λ (l : smallest p g d n ≤ g n). least c r l before)
          (λ (l : g n < smallest p g d n). (n, omega arith, q, min-eq_right (le_of_lt l)))
          (order (smallest p g d n) (g n)))
        where
          least : (c : Bool) → any_below n p ≡ c → smallest p g d n ≤ g n → (any_below n p ≡ true → One n (smallest p g d n)) → One (suc n) (min (smallest p g d n) (g n))
          least true r l before = let x = before r in (x.0, omega (arith, x.1), x.2, min-eq_left l ∙ x.3)
          least false r l before = let s = smallest-none n r in let b = h n (omega arith) q in (n, omega arith, q, min-eq_right (omega arith))
      by false q true r before = let x = before r in rw q (x.0, omega (arith, x.1), x.2, x.3)
      by false q false r before = let z : ◌≡◌ {A = Bool} false true = rw (r, q) at e in absurd (unlike (sym z))

pub smallest-is-begin : SmallestBegin
unfolding SmallestBegin first_begin has_records read
smallest-is-begin s size a t (z, is) some =
    let c = accepted-came s size a z in
    let u = read s size a c in
    let same : with_count u c.count ≡ t = sym (ap (λ (x : Header). x.tables) c.is) ∙ is in
    subst (λ (x : Tables). has_records x ≡ true → ((i : ℕ) → i < x.nvars → is_record x.dims (var_at x i) ≡ true → first_begin x ≤ (var_at x i).begin)
    × ((i : ℕ) × (i < x.nvars) × (is_record x.dims (var_at x i) ≡ true) × (first_begin x ≡ (var_at x i).begin))) same
    (λ e. (smallest-below _ (λ i. (var_at u i).begin) max_position u.nvars, smallest-one _ (λ i. (var_at u i).begin) max_position u.nvars (λ i l _. begin-in u c.sizes i l) e))
    some
