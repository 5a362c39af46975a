-- Laws of the first four bytes, and of bytes at hand that begin a pattern.
use Prim.Native.Nat.{ℕ, suc, ◌+◌, ◌-◌, ◌≤◌, ◌<◌, min}
use mathlib.Core.Path.{◌≡◌, refl, ap, sym, ◌∙◌}
use mathlib.Core.Bool.{Bool, true, false, ◌&&◌, ◌||◌, or-true}
use mathlib.Core.Logic.{◌⊎◌, ⊎_elim}
use mathlib.Core.List.{List, [], ◌∷◌}
use native.Mathlib.Omega.{arith}
use lib.ListN.{length, get_or, take, drop, length-drop}
use Rattle.std.proofs.lemmas.List.{take_rest, get_or-drop}
use Rattle.std.specs.List.{list_all, zip}
use Rattle.std.specs.Bool.{◌==◌}
use lib.Dec.{leb, eqb, leb-suc-suc, leb-suc-zero}
use borrow.Author.Tests.{lt-leb, le-leb, eq-eqb, ne_eqb, eqb-true}
use Rattle.cdf.specs.Below.{all_below}
use Rattle.cdf.specs.Step.{got, stop}
use Rattle.cdf.specs.Magic.{begins, cdf, magic, admits, version_byte}
use Rattle.cdf.specs.declared.version.Admitted.{Admitted}
use Rattle.cdf.proofs.Laws.Step.{by-true, by-false}
use Rattle.cdf.proofs.Laws.Below.{order, all_hold, one-fails, holds_at, same-below, first-apart}

either : (a b : Bool) → a ≡ false → (a || b) ≡ true → b ≡ true
either true b e h = let z : ◌≡◌ {A = Bool} true false = e in cc
either false b e h = h

-- a text that agrees with a pattern as far as both go, by the pattern's numbers
agree-below : (xs t : List ℕ) → list_all (λ x. x.0 == x.1) (zip xs t) ≡ all_below (length t) (λ i. leb (length xs) i || eqb (get_or xs i 0) (get_or t i 0))
agree-below [] t = sym (all_hold _ (length t) (λ i _. rw (le-leb 0 i (omega arith))))
agree-below (x ∷ xs) [] = sym (all_hold _ 0 (λ i l. absurd (omega arith)))
agree-below (x ∷ xs) (y ∷ t) =
    ap (λ (b : Bool). eqb x y && b) (agree-below xs t ∙ same-below (length t) _ _ (λ i _. rw (leb-suc-suc (length xs) i)))
    ∙ ap (λ (b : Bool). (b || eqb x y) && all_below (length t) (λ i. leb (length (x ∷ xs)) (suc i) || eqb (get_or xs i 0) (get_or t i 0))) (sym (leb-suc-zero (length xs)))
    ∙ sym (first-apart (length t) (λ i. leb (length (x ∷ xs)) i || eqb (get_or (x ∷ xs) i 0) (get_or (y ∷ t) i 0)))

-- no byte departs as far as both go, or one does
module _ (xs t : List ℕ) where
  pub agree-all : ((i : ℕ) → i < min (length xs) (length t) → get_or xs i 0 ≡ get_or t i 0) → true ≡ list_all (λ x. x.0 == x.1) (zip xs t)
  agree-all h =
      sym
      (agree-below xs t
      ∙ all_hold _ (length t)
      (λ i l.
      ⊎_elim
      (λ (p : length xs ≤ i). rw (le-leb (length xs) i p))
      (λ (p : i < length xs). rw (eq-eqb (get_or xs i 0) (get_or t i 0) (h i (omega arith))) (or-true (leb (length xs) i)))
      (order (length xs) i)))

  pub agree-not : (i : ℕ) → i < min (length xs) (length t) → (get_or xs i 0 ≡ get_or t i 0 → ⊥) → false ≡ list_all (λ x. x.0 == x.1) (zip xs t)
  agree-not i l n = sym (agree-below xs t ∙ one-fails _ (length t) i (omega arith) (rw (lt-leb (length xs) i (omega arith), ne_eqb (get_or xs i 0) (get_or t i 0) n)))

module _ (t s : List ℕ) (at : ℕ) where
  fits : ℕ → Bool
  fits i = leb (length s) (at + i) || eqb (get_or s (at + i) 0) (get_or t i 0)

  past : (i : ℕ) → length s ≤ at + i → fits i ≡ true
  unfolding fits
  past i h = rw (le-leb (length s) (at + i) h)

  agrees : (i : ℕ) → get_or s (at + i) 0 ≡ get_or t i 0 → fits i ≡ true
  unfolding fits
  agrees i e = rw (eq-eqb (get_or s (at + i) 0) (get_or t i 0) e) (or-true (leb (length s) (at + i)))

  departs : (i : ℕ) → at + i < length s → (get_or s (at + i) 0 ≡ get_or t i 0 → ⊥) → fits i ≡ false
  unfolding fits
  departs i h e = rw (lt-leb (length s) (at + i) h, ne_eqb (get_or s (at + i) 0) (get_or t i 0) e)

  -- the bytes from the place on, as a part of s
  pub begins_part : at ≤ length s → list_all (λ x. x.0 == x.1) (zip (take (length s - at) (drop at s)) t) ≡ begins t s at
  unfolding begins
  begins_part h =
      ap (λ (xs : List ℕ). list_all (λ x. x.0 == x.1) (zip xs t)) (take_rest s at) ∙ agree-below (drop at s) t
      ∙ same-below (length t) _ _ (λ i _. rw (length-drop at s, get_or-drop at s i 0) (ap (λ (b : Bool). b || eqb (get_or s (at + i) 0) (get_or t i 0)) (moved i)))
    where
      moved : (i : ℕ) → leb (length s - at) i ≡ leb (length s) (at + i)
      moved i = ⊎_elim (λ (p : length s ≤ at + i). rw (le-leb (length s - at) i (omega arith), le-leb (length s) (at + i) p)) (λ (p : at + i < length s). rw (lt-leb (length s - at) i (omega arith), lt-leb (length s) (at + i) p)) (order (length s) (at + i))

  -- no byte at hand departs
  pub begins-all : ((i : ℕ) → i < length t → (length s ≤ at + i) ⊎ (get_or s (at + i) 0 ≡ get_or t i 0)) → true ≡ begins t s at
  unfolding begins fits
  begins-all h = sym (all_hold fits (length t) (λ i l. ⊎_elim (past i) (agrees i) (h i l)))

  -- one does
  pub begins-not : (i : ℕ) → i < length t → at + i < length s → (get_or s (at + i) 0 ≡ get_or t i 0 → ⊥) → false ≡ begins t s at
  unfolding begins fits
  begins-not i l h e = sym (one-fails fits (length t) i l (departs i h e))

  pub begins-at : (i : ℕ) → begins t s at ≡ true → i < length t → at + i < length s → get_or s (at + i) 0 ≡ get_or t i 0
  unfolding begins fits
  begins-at i b l h = eqb-true _ _ (either (leb (length s) (at + i)) _ (lt-leb (length s) (at + i) h) (holds_at fits (length t) i b l))

module _ (s : List ℕ) (size : ℕ) where
  pub magic-got : begins cdf s 0 ≡ true → 3 ≤ length s → got tt 3 ≡ magic s size
  unfolding magic
  magic-got b h = by-true _ b (by-true _ (le-leb 3 (length s) h) refl)

module _ (a : Admitted) (s : List ℕ) (size at : ℕ) where
  pub version_byte-got : {v : ℕ} → at < length s → v ≡ get_or s at 0 → true ≡ admits a v → got v (at + 1) ≡ version_byte a s size at
  unfolding version_byte
  version_byte-got h e b =
      by-true _ (le-leb (at + 1) (length s) (omega arith)) (by-true _ (ap (admits a) (sym e) ∙ sym b) (ap (λ (v : ℕ). got v (at + 1)) e))

  pub version_byte-bad : {v : ℕ} → at < length s → v ≡ get_or s at 0 → false ≡ admits a v → stop 4 at ≡ version_byte a s size at
  unfolding version_byte
  version_byte-bad h e b = by-true _ (le-leb (at + 1) (length s) (omega arith)) (by-false _ (ap (admits a) (sym e) ∙ sym b) refl)
