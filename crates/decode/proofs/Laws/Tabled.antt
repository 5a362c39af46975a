-- The invariant of every loop over records: of d₀, which became d, the first n rows of m have been stored, each by a call that was lent its part.
use mathlib.Core.Path.{◌≡◌, refl, sym, ap, ◌∙◌}
use mathlib.Core.List.{List, ◌++◌, append_assoc}
use Prim.Native.Nat.{ℕ, ◌+◌, ◌-◌, ◌*◌, ◌≤◌}
use native.Mathlib.Nat.{suc-mul, zero-mul, mul_comm}
use native.Mathlib.Numerals.{add-one}
use native.Mathlib.Omega.{arith}
use lib.ListN.{length, take, drop, length-drop}
use lib.Seq.{length-take-le, take_at, drop_at, drop-drop}
use borrow.Rule.Slice.PartMut.{put_mid, same_len_mid, mid_len}
use Rattle.bigendian.specs.Number.{be}
use Rattle.bigendian.proofs.Laws.Number.{be-part}
use Rattle.bigendian.specs.Lists.{tab, grid}
use Rattle.bigendian.proofs.Laws.Lists.{length-tab, tab-ext, row_in, length-grid}

pub record Tabled {A : Type 0} (g : ℕ → ℕ → A) (m : ℕ) (d₀ d : List A) (n : ℕ) : Type 0 where
  pub long : length d ≡ length d₀
  pub is : d ≡ grid g m n ++ drop (n * m) d₀

-- a row that was decoded from the part `&s[c..e]` into the part `&mut d[a..a + m]`, in the source's own places
pub row-of-part : {A B : Type 0} (F : ℕ → A) (w : ℕ) (s : List ℕ) (c e : ℕ) (d : List B) (a m : ℕ) → e ≡ c + w * m → a + m ≤ length d
    → tab (λ j. F (be w (take (e - c) (drop c s)) (w * j))) (length (take (a + m - a) (drop a d))) ≡ tab (λ j. F (be w s (c + w * j))) m
row-of-part F w s c e d a m q h =
    let l : length (take (a + m - a) (drop a d)) ≡ m = mid_len a (a + m) d h ∙ omega arith in
    let n : w * m ≤ e - c = omega arith in
    rw l (tab-ext _ _ m (λ j b. ap F (be-part w s c (e - c) (w * j) (rw (mul_comm w j) (row_in j m w (e - c) b (rw (mul_comm m w) n))))))

module _ {A : Type 0} (g : ℕ → ℕ → A) (m : ℕ) (d₀ : List A) where
  pub tabled-none : Tabled g m d₀ d₀ 0
  unfolding grid
  tabled-none = record { long = refl; is = ap (λ (k : ℕ). drop k d₀) (sym (zero-mul m)) }

  -- row n, `&mut d[n * m..n * m + m]`, was lent, and came back as the row's values
  pub tabled-more : {d mid : List A} (n : ℕ) → Tabled g m d₀ d n → n * m + m ≤ length d₀ → mid ≡ tab (g n) m → Tabled g m d₀ (put_mid (n * m) (n * m + m - n * m) d mid) (n + 1)
  unfolding grid
  tabled-more {d} {mid} n t h f =
      let e : n * m + m - n * m ≡ m = omega arith in
      let t-is = t.is in
      let t-long = t.long in
      let l = length-grid g m n in
      let head : take (n * m) d ≡ grid g m n = ap (take (n * m)) t-is ∙ take_at (grid g m n) _ (n * m) l in
      let next : n * m + m ≡ (n + 1) * m = sym (suc-mul n m) ∙ ap (λ (k : ℕ). k * m) (sym (add-one n)) in
      let rest : drop m (drop (n * m) d) ≡ drop ((n + 1) * m) d₀ =
      ap (drop m) (ap (drop (n * m)) t-is ∙ drop_at (grid g m n) _ (n * m) l) ∙ drop-drop m (n * m) d₀ ∙ ap (λ (k : ℕ). drop k d₀) next in
      let lent : length (take m (drop (n * m) d)) ≡ m = length-take-le m _ (simp length-drop (omega arith)) in
      record {
        long = same_len_mid (n * m) (n * m + m - n * m) d mid (rw (e, f) (length-tab (g n) m ∙ sym lent)) ∙ t-long;
        is = rw (e, f, head, rest) (sym (ap (λ (k : ℕ). grid g m k ++ drop ((n + 1) * m) d₀) (add-one n) ∙ append_assoc (grid g m n) (tab (g n) m) (drop ((n + 1) * m) d₀)));
      }
