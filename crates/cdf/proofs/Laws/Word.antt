-- Laws of words: what each is, by cases, and that it ends inside the bytes.
use Prim.Native.Nat.{ℕ, ◌+◌, ◌-◌, ◌*◌, ◌^◌, ◌≤◌, ◌<◌}
use mathlib.Core.Path.{◌≡◌, refl, ap}
use mathlib.Core.Bool.{or-true}
use mathlib.Core.List.{List}
use native.Mathlib.Omega.{arith}
use lib.ListN.{length}
use lib.Dec.{ltb}
use borrow.Author.Tests.{lt-ltb, le-leb, leb-true, eq-eqb}
use Rattle.cdf.specs.Step.{Step, got, stop, bind}
use Rattle.bigendian.specs.Number.{be, half, extended}
use Rattle.cdf.specs.Word.{word, non_negative, open_count, nelems, signed}
use Rattle.bigendian.proofs.Laws.Number.{extended-8}
use Rattle.cdf.proofs.Laws.Step.{by-got, by-true, bind-came, test-came, got_same}

module _ (k : ℕ) (s : List ℕ) (size at : ℕ) where
  pub word_got : {v : ℕ} → at + k ≤ length s → v ≡ be k s at → got v (at + k) ≡ word k s size at
  unfolding word
  word_got h e = by-true _ (le-leb (at + k) (length s) h) (ap (λ (v : ℕ). got v (at + k)) e)

  pub non_negative-got : {v n : ℕ} → got v n ≡ word k s size at → v < half k → got v n ≡ non_negative k s size at
  unfolding non_negative
  non_negative-got e h = by-got _ _ e (by-true _ (lt-ltb _ _ h) refl)

  pub open_count-got : {v n : ℕ} → got v n ≡ word k s size at → v < half k → got v n ≡ open_count k s size at
  unfolding open_count
  open_count-got {v} e h = by-got _ _ e (by-true _ (rw (lt-ltb v (half k) h)) refl)

  pub open_count-open : {v n : ℕ} → got v n ≡ word k s size at → v ≡ 2 ^ (8 * k) - 1 → got v n ≡ open_count k s size at
  unfolding open_count
  open_count-open {v} e h = by-got _ _ e (by-true _ (rw (eq-eqb v (2 ^ (8 * k) - 1) h) (or-true (ltb v (half k)))) refl)

  pub signed-got : {v x n : ℕ} → got v n ≡ word k s size at → x ≡ extended k v → got x n ≡ signed k s size at
  unfolding signed
  signed-got {n = n} e h = by-got _ _ e (ap (λ (x : ℕ). got x n) h)

  module _ (capacity : ℕ) where
    pub nelems-got : {v n : ℕ} → got v n ≡ non_negative k s size at → v ≤ capacity → got v n ≡ nelems capacity k s size at
    unfolding nelems
    nelems-got e h = by-got _ _ e (by-true _ (le-leb _ _ h) refl)

    pub nelems-within : {v n : ℕ} → got v n ≡ nelems capacity k s size at → v ≤ capacity
    unfolding nelems
    nelems-within {v} e = bind-came _ _ e (v ≤ capacity) (λ a p _ f. let g = test-came _ _ f in let h = leb-true a capacity g.0 in let i = got_same g.1 in omega arith)

kept : (m : Step ℕ) → m ≡ bind m (λ v n. got (extended 8 v) n)
unfolding bind
kept (got v n) = ap (λ (x : ℕ). got x n) (extended-8 v)
kept (stop i p) = refl

-- eight bytes are the 64 bits themselves
pub signed-8 : (s : List ℕ) (size at : ℕ) → word 8 s size at ≡ signed 8 s size at
unfolding signed
signed-8 s size at = kept (word 8 s size at)
