-- Laws of lists that are given by a function of the index.
use mathlib.Core.Path.{◌≡◌, refl, sym, ap, ◌∙◌, subst}
use mathlib.Core.Logic.{⊎_elim}
use mathlib.Core.List.{List, [], ◌∷◌, ◌++◌, append-nil}
use Prim.Native.Nat.{ℕ, zero, suc, ◌+◌, ◌*◌, ◌≤◌, ◌<◌}
use native.Mathlib.Nat.{eq-or-lt_of_le, not-suc-le-zero, le_of_suc-le-suc, le_trans, le_refl, suc-mul, zero-mul, mul-le-mul_right}
use native.Mathlib.Numerals.{add-one}
use native.Mathlib.Omega.{arith}
use lib.ListN.{length, get_or, set, drop, length-append, get_or-append}
use lib.Seq.{drop_at, drop-cons, drop-length, set_at, get_or_at, get_or-append-add, append_snoc}
use Rattle.bigendian.specs.Lists.{tab, grid}

module _ {A : Type 0} (g : ℕ → A) where
  pub length-tab : (n : ℕ) → length (tab g n) ≡ n
  unfolding tab
  length-tab zero = refl
  length-tab (suc n) = length-append (tab g n) (g n ∷ []) ∙ ap (λ (k : ℕ). k + 1) (length-tab n) ∙ add-one n

  pub tab-none : (d : List A) → d ≡ tab g 0 ++ drop 0 d
  unfolding tab
  tab-none d = refl

  pub tab-all : (n : ℕ) (d : List A) → n ≡ length d → tab g n ++ drop n d ≡ tab g (length d)
  tab-all n d e = ap (λ (k : ℕ). tab g k ++ drop k d) e ∙ ap (λ (l : List A). tab g (length d) ++ l) (drop-length d) ∙ append-nil _

  pub tab-more : (n : ℕ) (d : List A) (y : A) → n < length d → y ≡ g n → set (tab g n ++ drop n d) n y ≡ tab g (n + 1) ++ drop (n + 1) d
  unfolding tab
  tab-more n d y h e =
      rw (add-one, drop-cons d n y h) (set_at (tab g n) _ (drop (suc n) d) y n (length-tab n) ∙ sym (append_snoc (tab g n) y (drop (suc n) d)) ∙ ap (λ (a : A). tab g n ++ (a ∷ []) ++ drop (suc n) d) e)

  pub tab-ext : (h : ℕ → A) (n : ℕ) → ((k : ℕ) → k < n → g k ≡ h k) → tab g n ≡ tab h n
  unfolding tab
  tab-ext h zero e = refl
  tab-ext h (suc n) e = let i = tab-ext h n (λ k l. e k (omega arith)) in let j = e n (omega arith) in cc

  -- what stands at k
  pub get_or-tab : (n k : ℕ) (d : A) → k < n → get_or (tab g n) k d ≡ g k
  unfolding tab
  get_or-tab zero k d h = absurd (not-suc-le-zero h)
  get_or-tab (suc n) k d h =
      ⊎_elim
      (λ (e : k ≡ n). get_or_at (tab g n) (g n) [] d k (length-tab n ∙ sym e) ∙ ap g (sym e))
      (λ (l : k < n). get_or-append (tab g n) (g n ∷ []) d k (subst (λ (m : ℕ). k < m) (sym (length-tab n)) l) ∙ get_or-tab n k d l)
      (eq-or-lt_of_le (le_of_suc-le-suc h))

-- row k of n rows of m lies within what n rows take
pub row_in : (k n m l : ℕ) → k < n → n * m ≤ l → k * m + m ≤ l
row_in k n m l h b = le_trans (subst (λ (i : ℕ). i ≤ n * m) (suc-mul k m) (mul-le-mul_right m h)) b

module _ {A : Type 0} (g : ℕ → ℕ → A) (m : ℕ) where
  pub length-grid : (n : ℕ) → length (grid g m n) ≡ n * m
  unfolding grid
  length-grid zero = sym (zero-mul m)
  length-grid (suc n) = length-append (grid g m n) (tab (g n) m) ∙ ap (λ (k : ℕ). k + length (tab (g n) m)) (length-grid n) ∙ ap (λ (k : ℕ). n * m + k) (length-tab (g n) m) ∙ sym (suc-mul n m)

  -- what stands at row k, column j
  pub get_or-grid : (n k j : ℕ) (d : A) → k < n → j < m → get_or (grid g m n) (k * m + j) d ≡ g k j
  unfolding grid
  get_or-grid zero k j d h l = absurd (not-suc-le-zero h)
  get_or-grid (suc n) k j d h l =
      ⊎_elim
      (λ (e : k ≡ n).
      ap (λ (i : ℕ). get_or (grid g m n ++ tab (g n) m) (i + j) d) (ap (λ (i : ℕ). i * m) e ∙ sym (length-grid n))
      ∙ get_or-append-add (grid g m n) (tab (g n) m) j d
      ∙ get_or-tab (g n) m j d l
      ∙ ap (λ (i : ℕ). g i j) (sym e))
      (λ (q : k < n).
      let b = row_in k n m (n * m) q (le_refl (n * m)) in
      let e = length-grid n in
      get_or-append (grid g m n) (tab (g n) m) d (k * m + j) (omega arith) ∙ get_or-grid n k j d q l)
      (eq-or-lt_of_le (le_of_suc-le-suc h))

-- the contract of a whole variable entry by entry: what stands at row k, column j, and that what lies after the rows stayed
module _ {A : Type 0} (g : ℕ → ℕ → A) (m n : ℕ) (d₀ : List A) {d : List A} (is : d ≡ grid g m n ++ drop (n * m) d₀) where
  pub entry : (k j : ℕ) (z : A) → k < n → j < m → get_or d (k * m + j) z ≡ g k j
  entry k j z h l =
      let b = row_in k n m (n * m) h (le_refl (n * m)) in
      let e = length-grid g m n in
      rw is (get_or-append (grid g m n) (drop (n * m) d₀) z (k * m + j) (omega arith) ∙ get_or-grid g m n k j z h l)

  pub after : drop (n * m) d ≡ drop (n * m) d₀
  after = rw is (drop_at (grid g m n) (drop (n * m) d₀) (n * m) (length-grid g m n))

pub grid-ext : {A : Type 0} (g h : ℕ → ℕ → A) (m n : ℕ) → ((k j : ℕ) → k < n → j < m → g k j ≡ h k j) → grid g m n ≡ grid h m n
unfolding grid
grid-ext g h m zero e = refl
grid-ext g h m (suc n) e =
    let a = grid-ext g h m n (λ k j l. e k j (omega arith)) in
    let b = tab-ext (g n) (h n) m (λ j. e n j (omega arith)) in
    cc
