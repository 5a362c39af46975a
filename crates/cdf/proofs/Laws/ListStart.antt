-- Laws of how a list starts.
use Prim.Native.Nat.{ℕ, zero, suc, ◌+◌, ◌≤◌, ◌<◌}
use mathlib.Core.Path.{◌≡◌, refl, sym, ◌∙◌}
use mathlib.Core.Bool.{Bool, true, false}
use mathlib.Core.Logic.{inl, inr, ⊎_elim}
use mathlib.Core.List.{List, [], ◌∷◌}
use native.Mathlib.Omega.{arith}
use native.Mathlib.Nat.{not-suc-le-zero, le_of_suc-le-suc}
use lib.ListN.{length, get_or, replicate, length-replicate, get_or-replicate}
use lib.Dec.{leb}
use borrow.Author.Tests.{le-leb}
use Rattle.cdf.specs.Step.{Step, got, stop, test, unfinished}
use Rattle.cdf.specs.Word.{nelems}
use Rattle.cdf.specs.Magic.{begins}
use Rattle.cdf.specs.ListStart.{list_start}
use Rattle.cdf.proofs.Laws.Step.{by-true, by-false, test-came}
use Rattle.cdf.proofs.Laws.Below.{order}
use Rattle.cdf.proofs.Laws.Word.{nelems-within}
use Rattle.cdf.proofs.Laws.Magic.{begins-all, begins-at}

-- the four bytes of a tag
abbrev pub tag_bytes : ℕ → List ℕ
tag_bytes tag = 0 ∷ 0 ∷ 0 ∷ tag ∷ []

tag-zero : (tag i : ℕ) → i < 3 → get_or (tag_bytes tag) i 0 ≡ 0
tag-zero tag zero h = refl
tag-zero tag (suc zero) h = refl
tag-zero tag (suc (suc zero)) h = refl
tag-zero tag (suc (suc (suc i))) h = absurd (not-suc-le-zero (le_of_suc-le-suc (le_of_suc-le-suc (le_of_suc-le-suc h))))

-- bytes at hand that begin a tag and no absent list hold the whole tag
pub tag-inside : (absent tag : ℕ) (s : List ℕ) (at : ℕ) → begins (replicate absent 0) s at ≡ false → begins (tag_bytes tag) s at ≡ true → at + 4 ≤ length s
tag-inside absent tag s at n y =
    ⊎_elim (λ (h : at + 4 ≤ length s). h)
    (λ (h : length s < at + 4).
    let all = begins-all (replicate absent 0) s at (λ i l.
    ⊎_elim (λ (p : length s ≤ at + i). inl p)
    (λ (p : at + i < length s).
    let m : i < absent = rw length-replicate at l in
    inr (begins-at (tag_bytes tag) s at i y (omega arith) p ∙ tag-zero tag i (omega arith) ∙ sym (get_or-replicate absent i 0 0 m)))
    (order (length s) (at + i))) in
    let z : ◌≡◌ {A = Bool} false true = sym n ∙ sym all in
    let w : ◌≡◌ {A = ℕ} 0 1 = cc in
    omega arith)
    (order (at + 4) (length s))

module _ (absent k tag room : ℕ) (s : List ℕ) (size at : ℕ) where
  pub start-absent : begins (replicate absent 0) s at ≡ true → at + absent ≤ length s → got 0 (at + absent) ≡ list_start absent k tag room s size at
  unfolding list_start
  start-absent b h = by-true _ b (by-true _ (le-leb _ _ h) refl)

  pub start-tag : {x : Step ℕ} → begins (replicate absent 0) s at ≡ false → begins (tag_bytes tag) s at ≡ true → x ≡ nelems room k s size (at + 4)
      → x ≡ list_start absent k tag room s size at
  unfolding list_start
  start-tag n b e = by-false _ n (by-true _ b e)

  -- the items of a list that is taken fit the room for them
  pub start-within : {n e : ℕ} → got n e ≡ list_start absent k tag room s size at → n ≤ room
  unfolding list_start test unfinished
  start-within {n} {e} f = taken (begins (replicate absent 0) s at) (leb (at + absent) (length s)) f
    where
      taken : (b c : Bool) → got n e ≡ test b (test c (got 0 (at + absent)) (unfinished s size)) (test (begins (tag_bytes tag) s at) (nelems room k s size (at + 4)) (stop 9 at)) → n ≤ room
      taken true true g = let z : n ≡ 0 = cc in omega arith
      taken true false g = let z : ◌≡◌ {A = ℕ} 0 1 = cc in omega arith
      taken false c g = nelems-within k s size (at + 4) room (test-came {t = begins (tag_bytes tag) s at} {x = nelems room k s size (at + 4)} 9 at g).1
