-- Rows that are taken up one after the other, each where its numbers fit.
use Prim.Native.Nat.{ℕ, zero, suc, ◌+◌, ◌-◌, ◌*◌, ◌≤◌, ◌<◌}
use native.Mathlib.Omega.{arith}
use native.Mathlib.Nat.{not-suc-le-zero, mul_comm}
use mathlib.Core.Path.{◌≡◌, refl, sym, ap, ◌∙◌}
use mathlib.Core.Logic.{⊎_elim}
use mathlib.Core.Bool.{Bool, true, false}
use mathlib.Core.List.{List}
use lib.ListN.{length, set, length-set}
use Rattle.bigendian.specs.Lists.{tab}
use Rattle.cdf.specs.Below.{all_below}
use Rattle.cdf.proofs.Laws.Below.{order, all_hold, one-fails}
use Rattle.decode.proofs.Laws.Filled.{Filled, filled_none, filled_more, filled-all}
use Rattle.std.specs.Prelude.{Option, Some, None}
use Rattle.crossing.specs.Inner.Taken.{when, part}

-- what holds below i, and of i
pub one_more : (p : ℕ → Bool) {i : ℕ} → ((k : ℕ) → k < i → p k ≡ true) → p i ≡ true → (k : ℕ) → k < i + 1 → p k ≡ true
one_more p {i} f e k m = ⊎_elim (λ (o : i ≤ k). let s : i ≡ k = omega arith in ap p (sym s) ∙ e) (λ (o : k < i). f k o) (order i k)

-- two tests that agree on every number
pub all_same : (p q : ℕ → Bool) (n : ℕ) → ((k : ℕ) → k < n → p k ≡ q k) → all_below n p ≡ all_below n q
unfolding all_below
all_same p q zero h = refl
all_same p q (suc n) h = let a = all_same p q n (λ k l. h k (omega arith)) in let b = h n (omega arith) in cc

-- the first i of n rows were taken up: p of each, whether it fits, holds, and g of each is the row
pub record Loading {A : Type 0} (p : ℕ → Bool) (g : ℕ → A) (n : ℕ) (d₀ d : List A) (i : ℕ) : Type 0 where
  pub few : i ≤ n
  pub long : length d ≡ n
  pub fit : (k : ℕ) → k < i → p k ≡ true
  pub filled : Filled g d₀ d i

module _ {A : Type 0} (p : ℕ → Bool) (g : ℕ → A) {n : ℕ} where
  pub loading-none : (d₀ : List A) → length d₀ ≡ n → Loading p g n d₀ d₀ 0
  loading-none d₀ l = record { few = omega arith; long = l; fit = λ k h. absurd (not-suc-le-zero h); filled = filled_none g d₀ }

  module _ {d₀ d : List A} {i : ℕ} (r : Loading p g n d₀ d i) where
    pub loading-more : {y : A} → i < n → p i ≡ true → y ≡ g i → Loading p g n d₀ (set d i y) (i + 1)
    loading-more {y} h e q =
        let l = r.long in
        record {
          few = omega arith;
          long = length-set d i y ∙ l;
          fit = one_more p r.fit e;
          filled = filled_more g d₀ y r.filled (omega arith) q;
        }

    -- a row that does not fit
    pub loading-stop : i < n → p i ≡ false → all_below n p ≡ false
    loading-stop h e = one-fails p n i h e

    -- all of them
    pub loading-all : n ≤ i → (all_below n p ≡ true) × (d ≡ tab g n)
    loading-all h =
        let l = r.long in
        let f = r.few in
        let w = r.filled.long in
        (all_hold p n (λ k m. r.fit k (omega arith)), filled-all g d₀ r.filled (omega arith) ∙ ap (tab g) (let e : length d₀ ≡ n = omega arith in e))

-- what is answered of one value
pub when-none : {A : Type 0} (b : Bool) (x : A) → when b x ≡ None → b ≡ false
when-none true x e = cc
when-none false x e = refl

pub when-some : {A : Type 0} (b : Bool) (x : A) {y : A} → when b x ≡ Some y → (b ≡ true) × (y ≡ x)
when-some true x e = (refl, cc)
when-some false x e = cc

-- the row whose words the code has cut out, telling twice how many they are
module _ {A : Type 0} (fits : A → Bool) (said : List ℕ → ℕ → A) (m : ℕ) (inner : (s : List ℕ) (at n i : ℕ) → i + m ≤ n → said (part s at n) i ≡ said s (at + i)) (s : List ℕ) (i : ℕ) {a b : ℕ} {r : Option A} (p : a ≡ m) (q : b ≡ m)
    (e : r ≡ when (fits (said (part s (i * a) (i * a + b - i * a)) 0)) (said (part s (i * a) (i * a + b - i * a)) 0)) where
  cut : said (part s (i * a) (i * a + b - i * a)) 0 ≡ said s (m * i)
  cut =
      let c = mul_comm i m in
      let n : i * m + m - i * m ≡ m = omega arith in
      rw (p, q, n) (inner s (i * m) m 0 (omega arith) ∙ ap (said s) (let f : i * m + 0 ≡ m * i = omega arith in f))

  told : r ≡ when (fits (said s (m * i))) (said s (m * i))
  told = e ∙ ap (λ (x : A). when (fits x) x) cut

  pub unfit-row : r ≡ None → fits (said s (m * i)) ≡ false
  unfit-row f = when-none _ _ (sym told ∙ f)

  pub fit-row : {y : A} → r ≡ Some y → (fits (said s (m * i)) ≡ true) × (y ≡ said s (m * i))
  fit-row f = when-some _ _ (sym told ∙ f)
