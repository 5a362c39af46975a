-- Words that are stored one after the other, from the first on.
use Prim.Native.Nat.{ℕ, zero, suc, ◌+◌, ◌-◌, ◌*◌, ◌≤◌, ◌<◌}
use native.Mathlib.Omega.{arith}
use native.Mathlib.Nat.{mul-suc, mul_comm, zero-add, mul-le-mul_left}
use native.Mathlib.Numerals.{add-one}
use mathlib.Core.Path.{◌≡◌, refl, sym, ap, subst, ◌∙◌}
use mathlib.Core.List.{List, [], ◌∷◌, ◌++◌, append_assoc, append-nil}
use lib.ListN.{length, get_or, drop, take, length-append, length-drop}
use lib.Seq.{take-suc, take_all, length-take-le, take_at, drop_at, drop-drop, drop-length, sets, sets-eq}
use borrow.Rule.Slice.PartMut.{put_mid}
use Rattle.std.specs.List.{flat_map}
use Rattle.crossing.specs.Words.{joined}

-- of d₀, which became d, the first words are now those of x
pub record Begun (d₀ d x : List ℕ) : Type 0 where
  pub fits : length x ≤ length d₀
  pub is : d ≡ x ++ drop (length x) d₀

pub begun-long : {d₀ d x : List ℕ} → Begun d₀ d x → length d ≡ length d₀
begun-long {d₀} {d} {x} b =
    let k = ap length b.is ∙ length-append x _ in
    let l = length-drop (length x) d₀ in
    let f = b.fits in
    omega arith

pub begun-room : {d₀ d x : List ℕ} {n : ℕ} → Begun d₀ d x → n ≤ length d₀ → n ≤ length d
begun-room {d₀} {n = n} b h = subst (λ (k : ℕ). n ≤ k) (sym (begun-long b)) h

-- words that were stored one by one
pub begun-sets : (d₀ x : List ℕ) → length x ≤ length d₀ → Begun d₀ (sets d₀ 0 x) x
begun-sets d₀ x h = record { fits = h; is = sets-eq x d₀ 0 (omega arith) ∙ ap (λ (n : ℕ). x ++ drop n d₀) (zero-add (length x)) }

-- the part `&mut d[a..e]`, which begins where x ends, was lent, and came back as z
pub begun_more : {d₀ d x y : List ℕ} (a e : ℕ) (z : List ℕ) → Begun d₀ d x → y ≡ z → length x ≡ a → a + length z ≡ e → e ≤ length d₀ → Begun d₀ (put_mid a (e - a) d y) (x ++ z)
begun_more {d₀} {d} {x} a e z b q l m h =
    let k = length-append x z in
    let f : take a d ≡ x = ap (take a) b.is ∙ take_at x _ a l in
    let g : drop (e - a) (drop a d) ≡ drop (length (x ++ z)) d₀ =
    ap (drop (e - a)) (ap (drop a) b.is ∙ drop_at x _ a l) ∙ drop-drop (e - a) (length x) d₀ ∙ ap (λ (n : ℕ). drop n d₀) (let r : length x + (e - a) ≡ length (x ++ z) = omega arith in r) in
    record { fits = omega arith; is = rw (f, g, q) (sym (append_assoc x z (drop (length (x ++ z)) d₀))) }

-- all of it was stored
pub begun_all : {d₀ d x : List ℕ} → Begun d₀ d x → length x ≡ length d₀ → d ≡ x
begun_all {d₀} {d} {x} b l = b.is ∙ ap (λ (r : List ℕ). x ++ r) (ap (λ (n : ℕ). drop n d₀) l ∙ drop-length d₀) ∙ append-nil x

pub all_set : (d x : List ℕ) → length d ≡ length x → sets d 0 x ≡ x
all_set d x l = begun_all (begun-sets d x (omega arith)) (sym l)

-- rows of m words
module _ (f : ℕ → List ℕ) (m : ℕ) (wide : (i : ℕ) → length (f i) ≡ m) where
  pub length-joined : (n : ℕ) → length (joined f n) ≡ m * n
  unfolding joined
  length-joined zero = omega arith
  length-joined (suc n) = length-append (joined f n) (f n) ∙ ap (λ (k : ℕ). k + length (f n)) (length-joined n) ∙ ap (λ (k : ℕ). m * n + k) (wide n) ∙ sym (mul-suc m n)

-- rows of a list, one after the other
pub flat_map-append : {A : Type 0} (f : A → List ℕ) (xs ys : List A) → flat_map f (xs ++ ys) ≡ flat_map f xs ++ flat_map f ys
flat_map-append f [] ys = refl
flat_map-append f (x ∷ xs) ys = ap (λ (z : List ℕ). f x ++ z) (flat_map-append f xs ys) ∙ sym (append_assoc (f x) (flat_map f xs) (flat_map f ys))

flat_map-more : {A : Type 0} (f : A → List ℕ) (xs : List A) (i : ℕ) (x : A) → i < length xs → x ≡ get_or xs i x → flat_map f (take (i + 1) xs) ≡ flat_map f (take i xs) ++ f x
flat_map-more f xs i x h e =
    ap (flat_map f) (ap (λ (n : ℕ). take n xs) (add-one i) ∙ take-suc xs i x h) ∙ flat_map-append f (take i xs) _ ∙ ap (λ (z : List ℕ). flat_map f (take i xs) ++ z) (append-nil (f (get_or xs i x)) ∙ ap f (sym e))

flat_map-joined : {A : Type 0} (f : A → List ℕ) (z : A) (xs : List A) (n : ℕ) → n ≤ length xs → flat_map f (take n xs) ≡ joined (λ i. f (get_or xs i z)) n
unfolding joined
flat_map-joined f z xs zero h = refl
flat_map-joined f z xs (suc n) h =
    ap (flat_map f) (take-suc xs n z h) ∙ flat_map-append f (take n xs) _ ∙ ap (λ (y : List ℕ). y ++ flat_map f (get_or xs n z ∷ [])) (flat_map-joined f z xs n (omega arith)) ∙ ap (λ (y : List ℕ). joined (λ i. f (get_or xs i z)) n ++ y) (append-nil (f (get_or xs n z)))

pub rows-joined : {A : Type 0} (f : A → List ℕ) (z : A) (xs : List A) (n : ℕ) → length xs ≡ n → flat_map f xs ≡ joined (λ i. f (get_or xs i z)) n
rows-joined f z xs n e = ap (flat_map f) (sym (take_all n xs (omega arith))) ∙ flat_map-joined f z xs n (omega arith)

-- the invariant of the loop that stores rows of m words
pub record Rows {A : Type 0} (f : A → List ℕ) (m : ℕ) (xs : List A) (d₀ d : List ℕ) (i : ℕ) : Type 0 where
  pub few : i ≤ length xs
  pub whole : length d₀ ≡ m * length xs
  pub begun : Begun d₀ d (flat_map f (take i xs))

module _ {A : Type 0} (f : A → List ℕ) (m : ℕ) (wide : (x : A) → length (f x) ≡ m) where
  length-rows : (xs : List A) → length (flat_map f xs) ≡ m * length xs
  length-rows [] = omega arith
  length-rows (x ∷ xs) = let a = length-append (f x) (flat_map f xs) in let b = wide x in let c = length-rows xs in let d = mul-suc m (length xs) in omega arith

  pub rows_none : (xs : List A) (d₀ : List ℕ) → length d₀ ≡ m * length xs → Rows f m xs d₀ d₀ 0
  rows_none xs d₀ l = record { few = omega arith; whole = l; begun = begun-sets d₀ [] (omega arith) }

  module _ {xs : List A} {d₀ d : List ℕ} {i : ℕ} (r : Rows f m xs d₀ d i) where
    pub rows_room : i < length xs → i * m + m ≤ length d
    rows_room h =
        let l = begun-long r.begun in
        let w = r.whole in
        let a = mul-le-mul_left m h in
        let b = mul-suc m i in
        let c = mul_comm m i in
        omega arith

    pub rows_all : length xs ≤ i → d ≡ flat_map f xs
    rows_all h =
        let w = r.whole in
        let e = take_all i xs h in
        begun_all (subst (λ (ys : List A). Begun d₀ d (flat_map f ys)) e r.begun) (length-rows xs ∙ sym w)

    -- the words of a row, told twice by the code
    pub rows_more : {a b : ℕ} {x : A} {y : List ℕ} → a ≡ m → b ≡ m → i < length xs → x ≡ get_or xs i x → y ≡ f x → Rows f m xs d₀ (put_mid (i * a) (i * a + b - i * a) d y) (i + 1)
    rows_more {x = x} p p' h q e =
        let k = wide x in
        let l = length-rows (take i xs) in
        let n = length-take-le i xs (omega arith) in
        let w = r.whole in
        let u = mul-le-mul_left m h in
        let v = mul-suc m i in
        let c = mul_comm m i in
        let t : m * length (take i xs) ≡ m * i = ap (λ (j : ℕ). m * j) n in
        let g = begun_more (i * m) (i * m + m) (f x) r.begun e (omega arith) (omega arith) (omega arith) in
        record { few = omega arith; whole = w; begun = rw (p, p', flat_map-more f xs i x h q) g }
