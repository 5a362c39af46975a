-- The invariant of every loop that decodes a chunk: of d₀, which became d, the first n elements have been stored.
use mathlib.Core.Path.{◌≡◌, refl, sym, ap, ◌∙◌, subst}
use mathlib.Core.List.{List, ◌++◌}
use Prim.Native.Nat.{ℕ, ◌+◌, ◌*◌, ◌≤◌, ◌<◌}
use native.Mathlib.Omega.{arith}
use lib.ListN.{length, set, drop, length-set}
use lib.Seq.{drop_at}
use Rattle.bigendian.specs.Lists.{tab}
use Rattle.bigendian.proofs.Laws.Lists.{length-tab, tab-none, tab-more, tab-all}

pub record Filled {A : Type 0} (g : ℕ → A) (d₀ d : List A) (n : ℕ) : Type 0 where
  pub within : n ≤ length d₀
  pub long : length d ≡ length d₀
  pub is : d ≡ tab g n ++ drop n d₀

module _ {A : Type 0} (g : ℕ → A) (d₀ : List A) where
  pub filled_none : Filled g d₀ d₀ 0
  filled_none = record { within = omega arith; long = refl; is = tab-none g d₀ }

  pub filled_more : {d : List A} {n : ℕ} (y : A) → Filled g d₀ d n → n < length d → y ≡ g n → Filled g d₀ (set d n y) (n + 1)
  filled_more {d} {n} y f h e =
      let w = f.within in
      let l = f.long in
      record { within = omega arith; long = length-set d n y ∙ l; is = ap (λ (x : List A). set x n y) f.is ∙ tab-more g n d₀ y (omega arith) e }

  pub filled-all : {d : List A} {n : ℕ} → Filled g d₀ d n → length d ≤ n → d ≡ tab g (length d₀)
  filled-all {d} {n} f h =
      let w = f.within in
      let l = f.long in
      f.is ∙ tab-all g n d₀ (omega arith)

  -- seen from d itself, for a second loop that goes on where the first has ended
  pub filled-since : {d : List A} {n : ℕ} → Filled g d₀ d n → Filled g d d n
  filled-since {d} {n} f =
      let w = f.within in
      let l = f.long in
      let rest : drop n d ≡ drop n d₀ = ap (drop n) f.is ∙ drop_at (tab g n) (drop n d₀) n (length-tab g n) in
      record { within = omega arith; long = refl; is = f.is ∙ ap (λ (x : List A). tab g n ++ x) (sym rest) }

  -- one store, the place and the count that follows it being said in other words
  pub filled_on : {d : List A} {m n k : ℕ} {y : A} → Filled g d₀ d n → m ≡ n → k ≡ n + 1 → n < length d → y ≡ g m → Filled g d₀ (set d m y) k
  filled_on {d} {m} {n} {k} {y} f p q h e =
      subst (λ (i : ℕ). Filled g d₀ (set d i y) k) (sym p) (subst (λ (i : ℕ). Filled g d₀ (set d n y) i) (sym q) (filled_more y f h (e ∙ ap g p)))

  -- four a turn
  pub filled-four : {d : List A} (j : ℕ) {w x y z : A} → Filled g d₀ d (4 * j) → 4 * j + 3 < length d → w ≡ g (4 * j) → x ≡ g (4 * j + 1) → y ≡ g (4 * j + 2) → z ≡ g (4 * j + 3)
      → Filled g d₀ (set (set (set (set d (4 * j) w) (4 * j + 1) x) (4 * j + 2) y) (4 * j + 3) z) (4 * (j + 1))
  filled-four {d} j {w} {x} {y} {z} f h p q r s =
      let one = filled_more w f (omega arith) p in
      let two = filled_more x one (simp length-set (omega arith)) q in
      let three = filled_on {k = 4 * j + 3} two (omega arith) (omega arith) (simp length-set (omega arith)) r in
      filled_on three (omega arith) (omega arith) (simp length-set (omega arith)) s
