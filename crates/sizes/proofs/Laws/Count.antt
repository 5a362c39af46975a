-- Laws of the sizes that one pass finds, and of the record count.
use Prim.Native.Nat.{ℕ, zero, suc, ◌+◌, ◌-◌, ◌*◌, ◌/◌, ◌%◌, ◌≤◌, ◌<◌}
use native.Mathlib.Omega.{arith}
use native.Mathlib.Numerals.{add-one}
use native.Mathlib.Nat.{add-zero, mul-zero}
use mathlib.Core.Path.{◌≡◌, refl, sym, ap, subst, ◌∙◌}
use mathlib.Core.Logic.{⊎_elim}
use mathlib.Core.Bool.{Bool, true, false, cond, ◌||◌, or-true}
use lib.Dec.{ltb, leb, eqb}
use borrow.Author.Tests.{lt-ltb, le-ltb, le-leb, lt-leb, eq-eqb, ne_eqb, leb-true, ltb-true}
use Rattle.cdf.specs.Step.{Step, got, stop}
use Rattle.cdf.specs.Below.{all_below, any_below}
use Rattle.cdf.proofs.Laws.Step.{by-true, by-false}
use Rattle.cdf.proofs.Laws.Below.{order, both, all_hold, holds_at}
use Rattle.grammar.specs.Tables.{var_at}
use Rattle.model.specs.Inner.Unlimited.{unlimited}
use Rattle.model.proofs.Laws.Model.{unlimited-some}
use Rattle.grammar.specs.Inner.Within.{Shaped}
use Rattle.model.specs.Model.{ids_hold}
use Rattle.sizes.specs.Inner.Sizes.{placed, divided, capped, largest, first_end, fixed_ends, fixed_ends_hold, record_end, added, still_holds, ends_in, sizes_of}
use Rattle.sizes.specs.Records.{smallest, total, is_record, padded_bytes, record_part, record_size, max_position, max_chunk, sizes_hold, end_of, ends_hold}
use Rattle.sizes.specs.Count.{has_unlimited, has_records, first_begin, count_or, record_count}
use Rattle.grammar.specs.declared.tables.Tables.{Tables}
use Rattle.sizes.specs.declared.records.Sizes.{Sizes}
use Rattle.std.proofs.Common.{Option, Some, None}
use Rattle.sizes.proofs.Laws.When.{when-some, when-none}
use Rattle.sizes.proofs.Laws.Records.{part, padded-pos, capped_same, capped-both, total-more, still-is, still-step, placed-if, sizes_begin, sizes-chunk, sizes-sum, begin-in, largest-above, largest-below, never}

module _ (t : Tables) where
  -- the sizes of the first n variables
  abbrev pub sizes_upto : ℕ → Sizes
  sizes_upto n =
      record {
        step = total (part t) n;
        first = smallest (λ i. is_record t.dims (var_at t i)) (λ i. (var_at t i).begin) max_position n;
        fixed = all_below n (fixed_ends t);
        last = largest (λ i. is_record t.dims (var_at t i)) (first_end t) n;
      }

  pub upto-none : record { step = 0; first = max_position; fixed = true; last = 0 } ≡ sizes_upto 0
  unfolding total smallest all_below largest
  upto-none = refl

  pub upto-more : (n : ℕ) → added (sizes_upto n) (is_record t.dims (var_at t n)) (var_at t n).begin (padded_bytes t.dims (var_at t n)) ≡ sizes_upto (n + 1)
  unfolding total smallest all_below largest
  upto-more n = rw add-one

  pub upto_all : {n : ℕ} → n ≡ t.nvars → sizes_upto n ≡ sizes_of t
  unfolding record_size first_begin fixed_ends_hold record_end
  upto_all e = ap sizes_upto e

  -- one variable more, by the numbers at hand: b, p, and what `added` answers
  module _ (i : ℕ) {z : Sizes} {o : Option Sizes} {b : Bool} (p : ℕ) (inside : i < t.nvars) (upto : z ≡ sizes_upto i) (is : b ≡ is_record t.dims (var_at t i))
      (alike : capped p ≡ capped (padded_bytes t.dims (var_at t i)))
      (more : o ≡ cond (still_holds z b (var_at t i).begin p) (Some (added z b (var_at t i).begin p)) None) where
    step_is : p ≤ max_chunk → z.step + cond b p 0 ≡ total (part t) (i + 1)
    step_is h =
        ap (λ (y : Sizes). y.step + cond b p 0) upto
        ∙ ap (λ (y : Bool). total (part t) i + cond y p 0) is
        ∙ ap (λ (y : ℕ). total (part t) i + cond (is_record t.dims (var_at t i)) y 0) (capped_same p _ alike h)
        ∙ sym (total-more (part t) i)

    pub upto_turn : {r : Sizes} → o ≡ Some r → (placed t i ≡ true) × (r ≡ sizes_upto (i + 1)) × (r.step ≤ max_chunk)
    upto_turn {r} e =
        let w = when-some (still_holds z b (var_at t i).begin p) _ (sym more ∙ e) in
        let s = still-is z b (var_at t i).begin p w.0 in
        let q = capped_same p _ alike s.1 in
        let a = w.1 in (
          placed-if t i s.0 (subst (λ (n : ℕ). n ≤ max_chunk) q s.1),
          a
              ∙ ap (λ (y : Sizes). added y b (var_at t i).begin p) upto
              ∙ ap (λ (y : Bool). added (sizes_upto i) y (var_at t i).begin p) is
              ∙ ap (λ (y : ℕ). added (sizes_upto i) (is_record t.dims (var_at t i)) (var_at t i).begin y) q
              ∙ upto-more i,
          subst (λ (y : Sizes). y.step ≤ max_chunk) (sym a) s.2,
        )

    pub upto-broken : o ≡ None → false ≡ sizes_hold t
    upto-broken e =
        let still = when-none (still_holds z b (var_at t i).begin p) _ (sym more ∙ e) in
        ⊎_elim
        (λ (h : (var_at t i).begin ≤ max_position).
        ⊎_elim
        (λ (k : p ≤ max_chunk). ⊎_elim (λ (l : z.step + cond b p 0 ≤ max_chunk). never _ (sym still ∙ sym (still-step z b (var_at t i).begin p h k) ∙ le-leb _ max_chunk l))
        (λ (l : max_chunk < z.step + cond b p 0). sizes-sum t (i + 1) (omega arith) (subst (λ (n : ℕ). max_chunk < n) (step_is k) l)) (order (z.step + cond b p 0) max_chunk))
        (λ (k : max_chunk < p). sizes-chunk t i inside (capped-both p _ alike k))
        (order p max_chunk))
        (λ (h : max_position < (var_at t i).begin). sizes_begin t i inside h)
        (order (var_at t i).begin max_position)

  -- ---- rule 15
  -- a bound on the steps holds where record variables give one, for without them a record has no bytes
  bound-upto : (x n : ℕ) → ((i : ℕ) → i < n → is_record t.dims (var_at t i) ≡ true → x ≤ max_position) → (total (part t) n ≡ 0 → x ≤ max_position) → x ≤ max_position
  unfolding total
  bound-upto x zero some none = none refl
  bound-upto x (suc n) some none = by_last (is_record t.dims (var_at t n)) refl (bound-upto x n (λ i l. some i (omega arith)))
    where
      by_last : (b : Bool) → is_record t.dims (var_at t n) ≡ b → ((total (part t) n ≡ 0 → x ≤ max_position) → x ≤ max_position) → x ≤ max_position
      by_last true e before = some n (omega arith) e
      by_last false e before = before (λ z. none (rw (e, add-zero) z))

  size_is : total (part t) t.nvars ≡ record_size t
  unfolding record_size
  size_is = refl

  module _ (n : ℕ) (sizes : sizes_hold t ≡ true) where
    -- the two ways of the law below: from the sizes to every variable, and back
    ends-forth : ends_in (sizes_of t) n ≡ true → ends_hold t n ≡ true
    unfolding ends_hold fixed_ends_hold record_end
    ends-forth e = all_hold _ t.nvars (λ i l. each i l (is_record t.dims (var_at t i)) refl (eqb n 0) refl)
      where
        given : (fixed_ends_hold t ≡ true) × ((eqb n 0 || leb (record_end t + (n - 1) * record_size t) max_position) ≡ true)
        given = both (fixed_ends_hold t) _ e

        each : (i : ℕ) → i < t.nvars → (b : Bool) → is_record t.dims (var_at t i) ≡ b → (m : Bool) → eqb n 0 ≡ m → leb (end_of t n (var_at t i)) max_position ≡ true
        each i l false r m q = rw r (subst (λ (b : Bool). (b || leb (first_end t i) max_position) ≡ true) r (holds_at (fixed_ends t) t.nvars i given.0 l))
        each i l true r true q = rw (r, q) (le-leb _ max_position (begin-in t sizes i l))
        each i l true r false q =
            let a = leb-true (record_end t + (n - 1) * record_size t) max_position (subst (λ (b : Bool). (b || leb (record_end t + (n - 1) * record_size t) max_position) ≡ true) q given.1) in
            let h : first_end t i ≤ record_end t = largest-above _ (first_end t) t.nvars i l r in
            rw (r, q) (le-leb ((var_at t i).begin + (n - 1) * record_size t + padded_bytes t.dims (var_at t i)) max_position (omega arith))

    ends-back : ends_hold t n ≡ true → ends_in (sizes_of t) n ≡ true
    unfolding ends_hold fixed_ends_hold record_end
    ends-back e = rw (all_hold (fixed_ends t) t.nvars (λ i l. fixed i l (is_record t.dims (var_at t i)) refl)) (last (eqb n 0) refl)
      where
        at : (i : ℕ) → i < t.nvars → leb (end_of t n (var_at t i)) max_position ≡ true
        at i l = holds_at _ t.nvars i e l

        fixed : (i : ℕ) → i < t.nvars → (b : Bool) → is_record t.dims (var_at t i) ≡ b → fixed_ends t i ≡ true
        fixed i l true r = rw r
        fixed i l false r = rw r (rw r at (at i l))

        last : (m : Bool) → eqb n 0 ≡ m → (m || leb (record_end t + (n - 1) * record_size t) max_position) ≡ true
        last true q = refl
        last false q = le-leb (record_end t + (n - 1) * record_size t) max_position (omega (arith, steps, ends))
          where
            ended : (i : ℕ) → i < t.nvars → is_record t.dims (var_at t i) ≡ true → (var_at t i).begin + (n - 1) * record_size t + padded_bytes t.dims (var_at t i) ≤ max_position
            ended i l r = leb-true _ max_position (rw (r, q) at (at i l))

            steps : (n - 1) * record_size t ≤ max_position
            steps = bound-upto ((n - 1) * record_size t) t.nvars (λ i l r. let h = ended i l r in omega arith) (λ z. let s : record_size t ≡ 0 = sym size_is ∙ z in rw (s, mul-zero) (omega arith))

            ends : record_end t ≤ max_position - (n - 1) * record_size t
            ends = largest-below _ (first_end t) (max_position - (n - 1) * record_size t) t.nvars (λ i l r. let h = ended i l r in omega arith)

    ends_same : ends_in (sizes_of t) n ≡ ends_hold t n
    ends_same = same _ _ ends-forth ends-back
      where
        same : (a b : Bool) → (a ≡ true → b ≡ true) → (b ≡ true → a ≡ true) → a ≡ b
        same true b f g = sym (f refl)
        same false true f g = g refl
        same false false f g = refl

    -- rule 15 is what the sizes say
    pub ends_by : {z : Sizes} {b : Bool} → z ≡ sizes_of t → b ≡ ends_in z n → b ≡ ends_hold t n
    ends_by e f = f ∙ ap (λ (y : Sizes). ends_in y n) e ∙ ends_same

  -- some variable is a record variable exactly where a record has bytes
  module _ (shape : Shaped t) (ids : ids_hold t ≡ true) where
    records-upto : (n : ℕ) → n ≤ t.nvars → ltb 0 (total (λ i. record_part t.dims (var_at t i)) n) ≡ any_below n (λ i. is_record t.dims (var_at t i))
    unfolding total any_below
    records-upto zero h = refl
    records-upto (suc n) h =
        let p = padded-pos t ids n (omega arith) shape in
        let r = records-upto n (omega arith) in
        last (is_record t.dims (var_at t n)) (padded_bytes t.dims (var_at t n)) _ (any_below n (λ i. is_record t.dims (var_at t i))) p r
      where
        last : (b : Bool) (x s : ℕ) (a : Bool) → 0 < x → ltb 0 s ≡ a → ltb 0 (s + cond b x 0) ≡ (a || b)
        last true x s a p r = lt-ltb 0 (s + x) (omega arith) ∙ sym (or-true a)
        last false x s true p r = rw add-zero r
        last false x s false p r = rw add-zero r

    pub records-some : 0 < record_size t → has_records t ≡ true
    unfolding record_size has_records
    records-some h = sym (records-upto t.nvars (omega arith)) ∙ lt-ltb 0 _ h

    pub records-none : record_size t ≡ 0 → has_records t ≡ false
    unfolding record_size has_records
    records-none e = sym (records-upto t.nvars (omega arith)) ∙ le-ltb 0 (total (λ i. record_part t.dims (var_at t i)) t.nvars) (omega arith)

    pub records-positive : has_records t ≡ true → 0 < record_size t
    unfolding record_size has_records
    records-positive e = ltb-true 0 _ (records-upto t.nvars (omega arith) ∙ e)

  -- a count that is given, and one that is opened by the size, whatever that comes to
  module _ (x : Step ℕ) where
    pub count-fixed : has_unlimited t ≡ false → got 0 0 ≡ count_or t x
    count-fixed e = by-false _ e refl

    module _ (has : has_unlimited t ≡ true) where
      pub count_word : (t.word ≡ 4294967295 → ⊥) → got t.word 0 ≡ count_or t x
      count_word n = by-true _ has (by-false _ (ne_eqb t.word 4294967295 n) refl)

      module _ (isopen : t.word ≡ 4294967295) where
        pub count_none : has_records t ≡ false → got 0 0 ≡ count_or t x
        count_none e = by-true _ has (by-true _ (eq-eqb t.word 4294967295 isopen) (by-false _ e refl))

        pub count-opened : has_records t ≡ true → x ≡ count_or t x
        count-opened e = by-true _ has (by-true _ (eq-eqb t.word 4294967295 isopen) (by-true _ e refl))

  pub count-is : count_or t (divided t.size (first_begin t) (record_size t)) ≡ record_count t
  unfolding record_count divided
  count-is = refl

module _ (size first step : ℕ) where
  pub divided-below : size < first → stop 14 0 ≡ divided size first step
  unfolding divided
  divided-below h = by-false _ (lt-leb first size h) refl

  pub divided-rest : first ≤ size → ((size - first) % step ≡ 0 → ⊥) → stop 13 0 ≡ divided size first step
  unfolding divided
  divided-rest h n = by-true _ (le-leb first size h) (by-false _ (ne_eqb _ _ n) refl)

  pub divided-even : first ≤ size → (size - first) % step ≡ 0 → got ((size - first) / step) 0 ≡ divided size first step
  unfolding divided
  divided-even h e = by-true _ (le-leb first size h) (by-true _ (eq-eqb _ _ e) refl)

-- whether a dimension is unlimited, by the number of the first that is
pub has_unlimited-by : (t : Tables) {n : ℕ} → n ≡ unlimited t → ltb n t.ndims ≡ has_unlimited t
unfolding has_unlimited
has_unlimited-by t e = ap (λ (n : ℕ). ltb n t.ndims) e ∙ unlimited-some t
