-- Below 2^32 both builds agree; what is suspect, exactly.
use Prim.Native.Nat.{ℕ, ◌-◌, ◌*◌, ◌/◌, ◌%◌, ◌≤◌, ◌<◌}
use native.Mathlib.Omega.{arith}
use native.Mathlib.Nat.{mod-lt, mod-eq_of_lt, mul-le-mul, le_antisymm, le_of_lt}
use mathlib.Core.Logic.{⊎_elim}
use mathlib.Core.Path.{◌≡◌, refl, sym, ap, subst, ◌∙◌}
use mathlib.Core.Bool.{Bool, true, false}
use lib.Dec.{leb, eqb}
use borrow.Author.Tests.{le-leb, lt-leb, lt-ltb, leb-true}
use Rattle.header.specs.declared.reader.HeaderAnswer.{HeaderAnswer as Header}
use Rattle.cdf.specs.Step.{Step, got, test}
use Rattle.cdf.proofs.Laws.Below.{order, first-none}
use Rattle.cdf.proofs.Laws.Step.{by-true, by-false, test-came, got_same}
use Rattle.grammar.specs.Tables.{laid, with_count, var_at}
use Rattle.grammar.specs.declared.tables.Tables.{Tables}
use Rattle.sizes.specs.Records.{chunk, record_size, max_position}
use Rattle.sizes.specs.Count.{has_unlimited, has_records, is_open, first_begin, record_count}
use Rattle.sizes.proofs.Laws.Records.{begin-in}
use Rattle.sizes.proofs.Laws.Count.{records-positive}
use Rattle.found.specs.Sought.{tables_hold}
use Rattle.found.proofs.Laws.Sought.{tables-parts}
use Rattle.guest32.specs.Guest.{word32, low32, guest_step, guest_first, guest_rest, opened, guest_count, elsewhere, cut_short, first_foreign, first_cut, guest32}
use Rattle.guest32.proofs.Laws.Guest.{step-low, elsewhere-is, cut-is, cut-not, guest-counted}
use Rattle.header.proofs.Laws.Accepted.{accepted-came, same_count}
use Rattle.demands.proofs.Written.{read-holds}
use Rattle.demands.proofs.RecordCount.{smallest-below, smallest-one}
use Rattle.demands.specs.Suspect.{unsuspected, Below32, BothBuildsAgree, SuspectExactly}

pub suspect-exactly : SuspectExactly
unfolding SuspectExactly
suspect-exactly t = (elsewhere-is t, λ i. cut i)
  where
    cut : (i : ℕ) → cut_short t.dims (var_at t i) ≡ leb word32 (chunk t.dims (var_at t i))
    cut i =
        ⊎_elim
        (λ (h : word32 ≤ chunk t.dims (var_at t i)). cut-is t.dims (var_at t i) h ∙ sym (le-leb word32 _ h))
        (λ (h : chunk t.dims (var_at t i) < word32). cut-not t.dims (var_at t i) h ∙ sym (lt-leb word32 _ h))
        (order word32 (chunk t.dims (var_at t i)))

-- what a test came to, by what was tested
on-true : {A : Type 0} {b : Bool} {z x : Step A} (y : Step A) → b ≡ true → z ≡ test b x y → z ≡ x
unfolding test
on-true {z = z} {x = x} y e h = subst (λ (b : Bool). z ≡ test b x y) e h

on-false : {A : Type 0} {b : Bool} {z y : Step A} (x : Step A) → b ≡ false → z ≡ test b x y → z ≡ y
unfolding test
on-false {z = z} {y = y} x e h = subst (λ (b : Bool). z ≡ test b x y) e h

-- ---- below 2^32
module _ (t : Tables) (hold : tables_hold t ≡ true) (low : Below32 t) where
  -- the smallest begin is that of the begins uncut
  first-agrees : has_records t ≡ true → guest_first t ≡ first_begin t
  unfolding guest_first first_begin has_records
  first-agrees some =
      let h = tables-parts t hold in
      let mine = smallest-one _ (λ i. (var_at t i).begin) max_position t.nvars (λ i l _. begin-in t h.sizes i l) some in
      let theirs = smallest-one _ (λ i. low32 (var_at t i).begin) word32 t.nvars (λ i l _. le_of_lt (mod-lt (var_at t i).begin (omega arith))) some in
      let above = smallest-below _ (λ i. low32 (var_at t i).begin) word32 t.nvars mine.0 mine.1 mine.2 in
      let below = smallest-below _ (λ i. (var_at t i).begin) max_position t.nvars theirs.0 theirs.1 theirs.2 in
      le_antisymm
      (subst (λ (x : ℕ). guest_first t ≤ x) (mod-eq_of_lt (low.begins mine.0 mine.1) ∙ sym mine.3) above)
      (subst (λ (x : ℕ). first_begin t ≤ x) (sym (mod-eq_of_lt (low.begins theirs.0 theirs.1)) ∙ sym theirs.3) below)

  step-agrees : guest_step t ≡ record_size t
  step-agrees = step-low t ∙ mod-eq_of_lt low.step

  rest-agrees : has_records t ≡ true → first_begin t ≤ t.size → guest_rest t ≡ t.size - first_begin t
  unfolding guest_rest
  rest-agrees some h =
      let f = first-agrees some in
      let m = low.size in
      let s : low32 t.size ≡ t.size = mod-eq_of_lt m in
      omega arith

  count-agrees : {n p : ℕ} → got n p ≡ record_count t → got n 0 ≡ guest_count t
  unfolding record_count guest_count opened
  count-agrees {n} {p} e = by (has_unlimited t) refl (is_open t) refl (has_records t) refl
    where
      by : (u : Bool) → has_unlimited t ≡ u → (o : Bool) → is_open t ≡ o → (r : Bool) → has_records t ≡ r → got n 0 ≡ guest_count t
      by false a o b r d = by-false _ a (ap (λ (x : ℕ). got x 0) (got_same (on-false _ a e)))
      by true a false b r d = by-true _ a (by-false _ b (ap (λ (x : ℕ). got x 0) (got_same (on-false _ b (on-true _ a e)))))
      by true a true b false d = by-true _ a (by-true _ b (by-false _ d (ap (λ (x : ℕ). got x 0) (got_same (on-false _ d (on-true _ b (on-true _ a e)))))))
      by true a true b true d =
          let c = test-came 14 0 (on-true _ d (on-true _ b (on-true _ a e))) in
          let q = test-came 13 0 c.1 in
          let rest = rest-agrees d (leb-true (first_begin t) t.size c.0) in
          let h = tables-parts t hold in
          let positive = records-positive t h.shape h.ids d in
          let step = step-agrees in
          by-true _ a (by-true _ b (by-true _ d
          (by-true _ (lt-ltb 0 (guest_step t) (omega arith))
          (by-true _ (ap (λ (x : ℕ). eqb (x % guest_step t) 0) rest ∙ ap (λ (x : ℕ). eqb ((t.size - first_begin t) % x) 0) step ∙ q.0)
          (ap (λ (x : ℕ). got x 0) (got_same q.1 ∙ sym (ap (λ (x : ℕ). x / guest_step t) rest ∙ ap (λ (x : ℕ). (t.size - first_begin t) / x) step)))))))

  -- every record in its place, every variable whole
  places-agree : t.count ≡ first_foreign t t.count
  unfolding first_foreign
  places-agree =
      sym (first-none (elsewhere t) t.count (λ r l.
      let m : r * record_size t ≤ (t.count - 1) * record_size t = mul-le-mul {n₁ = r} {m₁ = record_size t} {n₂ = t.count - 1} {m₂ = record_size t} (omega arith) (omega arith) in
      let below = low.last in
      elsewhere-is t r ∙ lt-leb word32 (r * record_size t) (omega arith)))

  chunks-agree : t.nvars ≡ first_cut t
  unfolding first_cut
  chunks-agree = sym (first-none _ t.nvars (λ i l. cut-not t.dims (var_at t i) (low.chunks i l)))

  agree : {p : ℕ} → got t.count p ≡ record_count t → guest32 t ≡ got (unsuspected t) 0
  agree e = sym (guest-counted t hold chunks-agree (count-agrees e) places-agree)

pub both-builds-agree : BothBuildsAgree
unfolding BothBuildsAgree
both-builds-agree s size a t (z, is) low =
    let c = accepted-came s size a z in
    let same : with_count (laid c.tree) c.count ≡ t = sym (ap (λ (x : Header). x.tables) c.is) ∙ is in
    let counted : (x : Tables) → with_count (laid c.tree) c.count ≡ x → got x.count c.counted.0 ≡ record_count x =
    λ x q. subst (λ (y : Tables). got y.count c.counted.0 ≡ record_count y) q (c.counted.1 ∙ sym (same_count (laid c.tree) c.count)) in
    agree t (subst (λ (x : Tables). tables_hold x ≡ true) is (read-holds s size a z)) low (counted t same)
