-- Laws of steps: one after the other, checks and runs.
use Prim.Native.Nat.{ℕ, zero, suc, ◌+◌, ◌-◌, ◌≤◌, ◌<◌}
use native.Mathlib.Nat.{sub-zero}
use native.Mathlib.Omega.{arith}
use mathlib.Core.Path.{◌≡◌, refl, sym, subst, ap, ◌∙◌}
use mathlib.Core.Bool.{Bool, true, false}
use mathlib.Core.List.{List, [], ◌∷◌, ◌++◌}
use lib.ListN.{length, length-append}
use Rattle.cdf.specs.Step.{Step, got, stop, bind, test, unless, need, into, items, unfinished, number_of, given_or, Leaves}

-- a step after a step: by the value that the first gives, or by its refusal
pub by-got : {A B : Type 0} {a : A} {n : ℕ} {m : Step A} (f : A → ℕ → Step B) (x : Step B) → got a n ≡ m → x ≡ f a n → x ≡ bind m f
unfolding bind
by-got f x e h = subst (λ m. x ≡ bind m f) e h

pub by-stop : {A B : Type 0} {k p : ℕ} {m : Step A} (f : A → ℕ → Step B) → stop k p ≡ m → stop k p ≡ bind m f
unfolding bind
by-stop {k = k} {p = p} f e = subst (λ m. stop k p ≡ bind m f) e refl

-- a check that holds, and one that does not
pub by-true : {A : Type 0} {t : Bool} {z x : Step A} (y : Step A) → t ≡ true → z ≡ x → z ≡ test t x y
unfolding test
by-true {z = z} {x = x} y e h = subst (λ (b : Bool). z ≡ test b x y) (sym e) h

pub by-false : {A : Type 0} {t : Bool} {z y : Step A} (x : Step A) → t ≡ false → z ≡ y → z ≡ test t x y
unfolding test
by-false {z = z} {y = y} x e h = subst (λ (b : Bool). z ≡ test b x y) (sym e) h

-- a step that was taken came by its parts
pub bind-came : {A B : Type 0} {b : B} {n : ℕ} (m : Step A) (f : A → ℕ → Step B) → got b n ≡ bind m f → (Q : Type 0) → ((a : A) (p : ℕ) → got a p ≡ m → got b n ≡ f a p → Q) → Q
unfolding bind
bind-came (got a p) f e Q k = k a p refl e
bind-came (stop i p) f e Q k = let z : ◌≡◌ {A = ℕ} 0 1 = cc in absurd (one-not z)
  where
    one-not : ◌≡◌ {A = ℕ} 0 1 → ⊥
    one-not z = omega arith

pub test-came : {A : Type 0} {a : A} {n : ℕ} {t : Bool} {x : Step A} (k p : ℕ) → got a n ≡ test t x (stop k p) → (t ≡ true) × (got a n ≡ x)
unfolding test
test-came {t = true} k p e = (refl, e)
test-came {t = false} k p e = (cc, cc)

pub got_same : {A : Type 0} {a b : A} {n m : ℕ} → got a n ≡ got b m → a ≡ b
got_same e = cc

pub into-last : {A B C : Type 0} (g : B → C) (h : A → B) (m : Step A) → into (λ a. g (h a)) m ≡ into g (bind m (λ a n. got (h a) n))
unfolding into bind
into-last g h (got a n) = refl
into-last g h (stop k p) = refl

pub into-got : {A B : Type 0} {a : A} {b : B} {n : ℕ} {m : Step A} (g : A → B) → b ≡ g a → got a n ≡ m → got b n ≡ into g m
unfolding into
into-got {B = B} {n = n} g h e = ap (λ (b : B). got b n) h ∙ ap (into g) e

pub into-stop : {A B : Type 0} {k p : ℕ} {m : Step A} (g : A → B) → stop k p ≡ m → stop k p ≡ into g m
unfolding into
into-stop g e = ap (into g) e

pub into-stopped : {A B : Type 0} {k p : ℕ} (g : A → B) (m : Step A) → stop k p ≡ into g m → stop k p ≡ m
unfolding into
into-stopped g (got a n) e = cc
into-stopped g (stop i q) e = cc

pub into-came : {A B : Type 0} {b : B} {n : ℕ} (g : A → B) (m : Step A) → got b n ≡ into g m → (a : A) × (got a n ≡ m) × (b ≡ g a)
unfolding into
into-came g (got a p) e = (a, cc, cc)
into-came g (stop i p) e = let z : ◌≡◌ {A = ℕ} 0 1 = cc in absurd (one-not z)
  where
    one-not : ◌≡◌ {A = ℕ} 0 1 → ⊥
    one-not z = omega arith

-- the first i of n items, those of a list, were read from one place to another
pub record Read {A : Type 0} (f : List A → ℕ → Step A) (n start i : ℕ) (xs : List A) (at : ℕ) : Type 0 where
  pub rest : items f n [] start ≡ items f (n - i) xs at

-- none yet; one more; a refusal; the end
module _ {A : Type 0} {f : List A → ℕ → Step A} {n start : ℕ} where
  pub read_none : Read f n start 0 [] start
  read_none = record { rest = rw sub-zero }

  module _ {i : ℕ} {xs : List A} {at : ℕ} (so : Read f n start i xs at) where
    left : i < n → n - i ≡ suc (n - (i + 1))
    left h = omega arith

    pub read_more : {x : A} {q : ℕ} → i < n → got x q ≡ f xs at → Read f n start (i + 1) (xs ++ (x ∷ [])) q
    unfolding items
    read_more h e = record { rest = so.rest ∙ ap (λ (k : ℕ). items f k xs at) (left h) ∙ sym (by-got (λ y r. items f (n - (i + 1)) (xs ++ (y ∷ [])) r) _ e refl) }

    pub read-stop : {k p : ℕ} → i < n → stop k p ≡ f xs at → stop k p ≡ items f n [] start
    unfolding items
    read-stop h e = by-stop (λ y r. items f (n - (i + 1)) (xs ++ (y ∷ [])) r) e ∙ sym (so.rest ∙ ap (λ (k : ℕ). items f k xs at) (left h))

    pub read_done : n ≤ i → got xs at ≡ items f n [] start
    unfolding items
    read_done h = let z : n - i ≡ 0 = omega arith in sym (so.rest ∙ ap (λ (k : ℕ). items f k xs at) z)

-- items that were read: how many they are, and what each one keeps
pub items-length : {A : Type 0} {ys : List A} {e : ℕ} (f : List A → ℕ → Step A) (n : ℕ) (xs : List A) (at : ℕ) → got ys e ≡ items f n xs at → length ys ≡ length xs + n
unfolding items
items-length f zero xs at e = let h = ap length (got_same e) in omega arith
items-length {ys = ys} f (suc n) xs at e =
    bind-came _ _ e (length ys ≡ length xs + suc n) (λ x q _ g. let h = items-length f n (xs ++ (x ∷ [])) q g in let l = length-append xs (x ∷ []) in omega arith)

pub items_keep : {A : Type 0} {ys : List A} {e : ℕ} (P : List A → Type 0) (f : List A → ℕ → Step A)
    → ((xs : List A) (x : A) (at q : ℕ) → P xs → got x q ≡ f xs at → P (xs ++ (x ∷ []))) → (n : ℕ) (xs : List A) (at : ℕ) → P xs → got ys e ≡ items f n xs at → P ys
unfolding items
items_keep P f h zero xs at k e = subst P (sym (got_same e)) k
items_keep {ys = ys} P f h (suc n) xs at k e = bind-came _ _ e (P ys) (λ x q c g. items_keep P f h n (xs ++ (x ∷ [])) q (h xs x at q k c) g)

-- a step after a check, after a step, and after one of the same answer; a check of the same outcome
pub bind-test : {A B : Type 0} (b : Bool) (x y : Step A) (f : A → ℕ → Step B) → bind (test b x y) f ≡ test b (bind x f) (bind y f)
unfolding test
bind-test true x y f = refl
bind-test false x y f = refl

-- a refusal gives nothing
pub refused-given : {A : Type 0} (d : A) (y : Step A) → (number_of y ≡ 0 → ⊥) → given_or d y ≡ d
refused-given d (got x n) h = absurd (h refl)
refused-given d (stop k p) h = refl

-- what a refusal leaves, and what an answer does
pub leaves-stop : {A : Type 0} {k p : ℕ} {y : Step (List A)} (out : List A) → stop k p ≡ y → Leaves out y k out
leaves-stop out e = (ap number_of e, ap (given_or out) e)

pub leaves-got : {A : Type 0} {n : ℕ} {new : List A} {y : Step (List A)} (out : List A) → got new n ≡ y → Leaves out y 0 new
leaves-got out e = (ap number_of e, ap (given_or out) e)

-- a step after a rule, and after bytes at hand
pub bind-need : {A B : Type 0} (b : Bool) (k p : ℕ) (x : Step A) (f : A → ℕ → Step B) → bind (need b k p x) f ≡ need b k p (bind x f)
unfolding test bind
bind-need true k p x f = refl
bind-need false k p x f = refl

pub bind-hand : {A B : Type 0} (b : Bool) (s : List ℕ) (size : ℕ) (x : Step A) (f : A → ℕ → Step B) → bind (unless b (unfinished s size) x) f ≡ unless b (unfinished s size) (bind x f)
unfolding test bind unfinished
bind-hand true s size x f = refl
bind-hand false s size x f = refl

pub bind-got : {A B : Type 0} (a : A) (n : ℕ) (f : A → ℕ → Step B) → bind (got a n) f ≡ f a n
unfolding bind
bind-got a n f = refl

pub bind-bind : {A B C : Type 0} (m : Step A) (f : A → ℕ → Step B) (g : B → ℕ → Step C) → bind (bind m f) g ≡ bind m (λ a n. bind (f a n) g)
unfolding bind
bind-bind (got a n) f g = refl
bind-bind (stop k p) f g = refl

pub bind-same : {A B : Type 0} (m : Step A) (f g : A → ℕ → Step B) → ((a : A) (n : ℕ) → got a n ≡ m → f a n ≡ g a n) → bind m f ≡ bind m g
unfolding bind
bind-same (got a n) f g h = h a n refl
bind-same (stop k p) f g h = refl

pub test-same : {A : Type 0} (b : Bool) {x z : Step A} (y : Step A) → (b ≡ true → x ≡ z) → test b x y ≡ test b z y
unfolding test
test-same true y h = h refl
test-same false y h = refl

-- a step that was taken came by one side of a check
pub either : {A : Type 0} {a : A} {n : ℕ} (b : Bool) (x y : Step A) {Q : Type 0} → got a n ≡ test b x y → (got a n ≡ x → Q) → (got a n ≡ y → Q) → Q
unfolding test
either true x y e f g = f e
either false x y e f g = g e
