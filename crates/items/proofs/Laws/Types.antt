-- Laws of data types.
use Prim.Native.Nat.{ℕ, zero, suc, ◌≤◌, ◌<◌}
use mathlib.Core.Path.{◌≡◌, refl, ap}
use mathlib.Core.Logic.{⊎_elim}
use mathlib.Core.List.{List}
use native.Mathlib.Omega.{arith}
use lib.ListN.{get_or-eq_default}
use lib.Dec.{leb, lit≤}
use borrow.Author.Tests.{le-leb, leb-true}
use Rattle.cdf.specs.Step.{got}
use Rattle.cdf.specs.Below.{all_below}
use Rattle.cdf.specs.Word.{non_negative}
use Rattle.items.specs.Types.{sizes, size_of, data_type}
use Rattle.cdf.proofs.Laws.Step.{by-got, by-true, bind-came, test-came, got_same}
use Rattle.cdf.proofs.Laws.Below.{order, both, holds_at}

-- what holds of each code of a type
pub by_code : (P : ℕ → Type 0) → P 1 → P 2 → P 3 → P 4 → P 5 → P 6 → (code : ℕ) → 1 ≤ code → code ≤ 6 → P code
by_code P a b c d e f zero h l = absurd (omega arith)
by_code P a b c d e f (suc zero) h l = a
by_code P a b c d e f (suc (suc zero)) h l = b
by_code P a b c d e f (suc (suc (suc zero))) h l = c
by_code P a b c d e f (suc (suc (suc (suc zero)))) h l = d
by_code P a b c d e f (suc (suc (suc (suc (suc zero))))) h l = e
by_code P a b c d e f (suc (suc (suc (suc (suc (suc zero)))))) h l = f
by_code P a b c d e f (suc (suc (suc (suc (suc (suc (suc n))))))) h l = absurd (omega arith)

-- an element has at most 8 bytes, and one of a type at least one
pub size-high : (code : ℕ) → size_of code ≤ 8
unfolding all_below
size-high code =
    ⊎_elim
    (λ (h : 7 ≤ code). let e = get_or-eq_default sizes 0 h in omega arith)
    (λ (h : code < 7). leb-true _ 8 (holds_at (λ c. leb (size_of c) 8) 7 code refl h))
    (order 7 code)

pub size-pos : (code : ℕ) → 1 ≤ code → code ≤ 6 → 0 < size_of code
size-pos = by_code (λ c. 0 < size_of c) (lit≤ tt) (lit≤ tt) (lit≤ tt) (lit≤ tt) (lit≤ tt) (lit≤ tt)

module _ (codes : ℕ) (s : List ℕ) (size at : ℕ) where
  module _ {v n : ℕ} (read : got v n ≡ non_negative 4 s size at) where
    pub type-got : {c : ℕ} → 1 ≤ v → v ≤ codes → c ≡ v → got c n ≡ data_type codes s size at
    unfolding data_type
    type-got h l e = by-got _ _ read (by-true _ (rw (le-leb 1 v h, le-leb v codes l)) (ap (λ (c : ℕ). got c n) e))

  -- a code that is taken is one of a type
  pub type-within : {c n : ℕ} → got c n ≡ data_type codes s size at → (1 ≤ c) × (c ≤ codes)
  unfolding data_type
  type-within {c} e =
      bind-came _ _ e ((1 ≤ c) × (c ≤ codes)) (λ v p _ f.
      let g = test-came _ _ f in
      let b = both (leb 1 v) (leb v codes) g.0 in
      let l = leb-true 1 v b.0 in
      let h = leb-true v codes b.1 in
      let same = got_same g.1 in
      (omega arith, omega arith))
