-- Laws of bytes that are put into an output.
use Prim.Native.Nat.{ℕ, zero, suc, ◌+◌, ◌-◌, ◌*◌, ◌/◌, ◌%◌, ◌≤◌, ◌<◌}
use native.Mathlib.Omega.{arith}
use native.Mathlib.Nat.{add-zero}
use native.Mathlib.Numerals.{add-one}
use mathlib.Core.Path.{◌≡◌, refl, sym, ap, subst, ◌∙◌}
use mathlib.Core.List.{List, [], ◌∷◌, ◌++◌, append_assoc, append-nil}
use Rattle.std.specs.Int.{to_be_bytes, byte_at, w64}
use lib.ListN.{length, take, drop, set, get_or, replicate, length-append, length-set, length-replicate, length-drop, take-append-drop}
use lib.Seq.{set-set, take_all, take-suc, set_split, take_at, drop_at, drop-drop, length-take-le}
use borrow.Author.Tests.{ne_eqb}
use Rattle.cdf.specs.Form.{form}
use Rattle.cdf.specs.Padding.{padding}
use Rattle.rules.specs.Rules.{spelled}
use Rattle.rules.specs.Encode.{padded_out, name_bytes}
use Rattle.rules.proofs.Laws.Spelled.{length-spelled}
use Rattle.writer.specs.Inner.Put.{Put}
use Rattle.writer.specs.Inner.Parts.{start_bytes}

-- nothing, and one after the other
pub put-nothing : (s : List ℕ) (at : ℕ) → Put s at [] s at
put-nothing s at =
    record {
      place = sym (add-zero at);
      long = refl;
      bytes = sym (ap (λ (n : ℕ). take at s ++ drop n s) (add-zero at) ∙ take-append-drop at s);
    }

pub put_then : {s t u x y : List ℕ} {i j k : ℕ} → i + length x ≤ length s → Put s i x t j → Put t j y u k → Put s i (x ++ y) u k
put_then {s} {t} {u} {x} {y} {i} {j} {k} h f g =
    let e = length-append x y in
    let a = f.place in
    let b = g.place in
    let p = take i s in
    let d = drop (i + length x) s in
    let l : length (p ++ x) ≡ j = let m = length-append p x in let n = length-take-le i s (omega arith) in omega arith in
    let all : t ≡ p ++ x ++ d = f.bytes ∙ sym (append_assoc p x d) in
    let front : take j t ≡ p ++ x = ap (take j) all ∙ take_at (p ++ x) d j l in
    let rest : drop (j + length y) t ≡ drop (i + length (x ++ y)) s =
    sym (drop-drop (length y) j t) ∙ ap (λ (z : List ℕ). drop (length y) (drop j z)) all ∙ ap (drop (length y)) (drop_at (p ++ x) d j l) ∙ drop-drop (length y) (i + length x) s
    ∙ ap (λ (n : ℕ). drop n s) (let q : i + length x + length y ≡ i + length (x ++ y) = omega arith in q) in
    record {
      place = omega arith;
      long = g.long ∙ f.long;
      bytes =
          g.bytes ∙ ap (λ (z : List ℕ). z ++ (y ++ drop (j + length y) t)) front ∙ ap (λ (z : List ℕ). p ++ x ++ (y ++ z)) rest
          ∙ append_assoc p x (y ++ drop (i + length (x ++ y)) s) ∙ ap (λ (z : List ℕ). p ++ z) (sym (append_assoc x y (drop (i + length (x ++ y)) s)));
    }

pub put_is : {s t x y : List ℕ} {i j : ℕ} → Put s i x t j → x ≡ y → Put s i y t j
put_is {s} {t} {x} {y} {i} {j} f e = subst (λ (z : List ℕ). Put s i z t j) e f

-- a byte, and the bytes of a list, one after the other
pub put_byte : (s : List ℕ) (at c : ℕ) → at < length s → Put s at (c ∷ []) (set s at c) (at + 1)
put_byte s at c h =
    record { place = refl; long = length-set s at c; bytes = set_split s at c h ∙ ap (λ (n : ℕ). take at s ++ (c ∷ drop n s)) (sym (add-one at)) }

pub put-none : (s more : List ℕ) (at : ℕ) → Put s at (take 0 more) s (at + 0)
put-none s more at = subst (λ (k : ℕ). Put s at [] s k) (sym (add-zero at)) (put-nothing s at)

pub put-more : (s t more : List ℕ) (at i c : ℕ) → i < length more → at + length more ≤ length s → c ≡ get_or more i 0
    → Put s at (take i more) t (at + i) → Put s at (take (i + 1) more) (set t (at + i) c) (at + (i + 1))
put-more s t more at i c l room e g =
    let a : take i more ++ (c ∷ []) ≡ take (i + 1) more = rw (add-one, take-suc more i 0 l, e) in
    let n = length-take-le i more (omega arith) in
    let p : at + i + 1 ≡ at + (i + 1) = omega arith in
    let same = g.long in
    subst (λ (k : ℕ). Put s at (take (i + 1) more) (set t (at + i) c) k) p (put_is (put_then (omega arith) g (put_byte t (at + i) c (omega arith))) a)

pub put_all : (s t more : List ℕ) (at i : ℕ) → i ≡ length more → Put s at (take i more) t (at + i) → Put s at more t (at + length more)
put_all s t more at i e g = subst (λ (k : ℕ). Put s at more t (at + k)) e (put_is g (take_all i more (omega (arith, e))))

-- eight bytes at a time
eight-more : (more : List ℕ) (i : ℕ) → i + 8 ≤ length more
    → take i more ++ (get_or more i 0 ∷ get_or more (i + 1) 0 ∷ get_or more (i + 2) 0 ∷ get_or more (i + 3) 0 ∷ get_or more (i + 4) 0 ∷ get_or more (i + 5) 0 ∷ get_or more (i + 6) 0 ∷ get_or more (i + 7) 0 ∷ []) ≡ take (i + 8) more
eight-more more i h =
    one i (i + 1) _ (omega arith) (omega arith) ∙ one (i + 1) (i + 2) _ (omega arith) (omega arith) ∙ one (i + 2) (i + 3) _ (omega arith) (omega arith) ∙ one (i + 3) (i + 4) _ (omega arith) (omega arith)
    ∙ one (i + 4) (i + 5) _ (omega arith) (omega arith) ∙ one (i + 5) (i + 6) _ (omega arith) (omega arith) ∙ one (i + 6) (i + 7) _ (omega arith) (omega arith) ∙ one (i + 7) (i + 8) [] (omega arith) (omega arith)
    ∙ append-nil (take (i + 8) more)
  where
    one : (j k : ℕ) (r : List ℕ) → suc j ≡ k → j < length more → take j more ++ (get_or more j 0 ∷ r) ≡ take k more ++ r
    one j k r e l = sym (append_assoc (take j more) (get_or more j 0 ∷ []) r) ∙ ap (λ (z : List ℕ). z ++ r) (sym (take-suc more j 0 l) ∙ ap (λ (n : ℕ). take n more) e)

pub put-eight : {s t u : List ℕ} (more : List ℕ) (at j : ℕ) → 8 * j + 8 ≤ length more → at + length more ≤ length s → Put s at (take (8 * j) more) t (at + 8 * j)
    → Put t (at + 8 * j) (get_or more (8 * j) 0 ∷ get_or more (8 * j + 1) 0 ∷ get_or more (8 * j + 2) 0 ∷ get_or more (8 * j + 3) 0 ∷ get_or more (8 * j + 4) 0 ∷ get_or more (8 * j + 5) 0 ∷ get_or more (8 * j + 6) 0 ∷ get_or more (8 * j + 7) 0 ∷ []) u (at + 8 * j + 8)
    → Put s at (take (8 * (j + 1)) more) u (at + 8 * (j + 1))
put-eight {s} {u = u} more at j h room f g =
    let i = 8 * j in
    let l = length-take-le i more (omega arith) in
    let p = put_is (put_then (omega arith) f g) (eight-more more i h) in
    subst (λ (k : ℕ). Put s at (take k more) u (at + k)) (let e : i + 8 ≡ 8 * (j + 1) = omega arith in e) (record { place = omega (arith, p.place); long = p.long; bytes = p.bytes })

-- and the rest of them
pub put-rest : {s t u more : List ℕ} {i r : ℕ} (at n : ℕ) → i ≤ length more → n ≡ length more - i → at + length more ≤ length s → Put s at (take i more) t (at + i) → Put t (at + i) (take n (drop i more)) u r → Put s at more u (at + length more)
put-rest {more = more} {i} at n h e room f g =
    let l = length-take-le i more h in
    let d = length-drop i more in
    let whole = ap (λ (z : List ℕ). take i more ++ z) (take_all n (drop i more) (omega arith)) ∙ take-append-drop i more in
    let p = put_is (put_then (omega arith) f g) whole in
    record { place = refl; long = p.long; bytes = p.bytes }

-- at most three zeros: the first, one in the middle, the last
zeros-more : (n : ℕ) → ◌≡◌ {A = List ℕ} (replicate n 0 ++ (0 ∷ [])) (replicate (n + 1) 0)
zeros-more n = more n ∙ ap (λ (k : ℕ). replicate k 0) (sym (add-one n))
  where
    more : (n : ℕ) → ◌≡◌ {A = List ℕ} (replicate n 0 ++ (0 ∷ [])) (replicate (suc n) 0)
    more zero = refl
    more (suc n) = ap (λ (l : List ℕ). 0 ∷ l) (more n)

put-zero : (s t : List ℕ) (at i : ℕ) → at + i < length s → Put s at (replicate i 0) t (at + i) → Put s at (replicate (i + 1) 0) (set t (at + i) 0) (at + (i + 1))
put-zero s t at i room g =
    let n = length-replicate {A = ℕ} i 0 in
    let p : at + i + 1 ≡ at + (i + 1) = omega arith in
    let same = g.long in
    subst (λ (k : ℕ). Put s at (replicate (i + 1) 0) (set t (at + i) 0) k) p (put_is (put_then (omega arith) g (put_byte t (at + i) 0 (omega arith))) (zeros-more i))

module _ (s : List ℕ) (at : ℕ) where
  zero_one : at + 1 ≤ length s → Put s at (replicate 1 0) (set s at 0) (at + 1)
  zero_one h = put_byte s at 0 (omega arith)

  zero-two : at + 2 ≤ length s → Put s at (replicate 2 0) (set (set s at 0) (at + 1) 0) (at + 2)
  zero-two h = put-zero s (set s at 0) at 1 (omega arith) (zero_one (omega arith))

  zero-three : at + 3 ≤ length s → Put s at (replicate 3 0) (set (set (set s at 0) (at + 1) 0) (at + 2) 0) (at + 3)
  zero-three h = put-zero s (set (set s at 0) (at + 1) 0) at 2 (omega arith) (zero-two (omega arith))

  pub pad-none : (n : ℕ) → n ≡ 0 → Put s at (replicate n 0) s (at + n)
  pad-none n e = subst (λ (k : ℕ). Put s at (replicate k 0) s (at + k)) (sym e) (put-none s [] at)

  -- at the places i and j
  pads : (n i j : ℕ) → i ≡ n / 2 → j + 1 ≡ n → n ≤ 3 → at + n ≤ length s → Put s at (replicate n 0) (set (set (set s at 0) (at + i) 0) (at + j) 0) (at + n)
  pads zero i j e f l h = absurd (omega arith)
  pads (suc zero) i j e f l h =
      let a : at + i ≡ at = omega arith in
      let b : at + j ≡ at = omega arith in
      let q : set (set (set s at 0) at 0) at 0 ≡ set s at 0 = set-set (set s at 0) at 0 0 ∙ set-set s at 0 0 in
      rw (a, b, q) (zero_one h)
  pads (suc (suc zero)) i j e f l h =
      let a : i ≡ 1 = omega arith in
      let b : j ≡ 1 = omega arith in
      rw (a, b, set-set (set s at 0) (at + 1) 0 0) (zero-two h)
  pads (suc (suc (suc zero))) i j e f l h =
      let a : i ≡ 1 = omega arith in
      let b : j ≡ 2 = omega arith in
      rw (a, b) (zero-three h)
  pads (suc (suc (suc (suc n)))) i j e f l h = absurd (omega arith)

  pub pad-some : (n : ℕ) → (n ≡ 0 → ⊥) → n ≤ 3 → at + n ≤ length s → Put s at (replicate n 0) (set (set (set s at 0) (at + n / 2) 0) (at + n - 1) 0) (at + n)
  pad-some n z l h =
      let k : n - 1 + 1 ≡ n = omega (arith, z) in
      let e : at + (n - 1) ≡ at + n - 1 = omega arith in
      subst (λ (m : ℕ). Put s at (replicate n 0) (set (set (set s at 0) (at + n / 2) 0) m 0) (at + n)) e (pads n (n / 2) (n - 1) refl k l h)

-- at the start of an output
pub put-start : {s t x : List ℕ} {r : ℕ} → Put s 0 x t r → t ≡ x ++ drop (length x) s
put-start {s} {t} {x} f = f.bytes ∙ ap (λ (n : ℕ). x ++ drop n s) (let e : 0 + length x ≡ length x = omega arith in e)

-- the eight bytes of a number, and the last four of them
pub eight-bytes : (v : ℕ) → to_be_bytes w64 v ≡ spelled 8 v
unfolding spelled
eight-bytes v =
    let a : byte_at 1 v ≡ v / 256 % 256 = omega arith in
    let b : byte_at 2 v ≡ v / 256 / 256 % 256 = omega arith in
    let c : byte_at 3 v ≡ v / 256 / 256 / 256 % 256 = omega arith in
    let d : byte_at 4 v ≡ v / 256 / 256 / 256 / 256 % 256 = omega arith in
    let e : byte_at 5 v ≡ v / 256 / 256 / 256 / 256 / 256 % 256 = omega arith in
    let f : byte_at 6 v ≡ v / 256 / 256 / 256 / 256 / 256 / 256 % 256 = omega arith in
    let g : byte_at 7 v ≡ v / 256 / 256 / 256 / 256 / 256 / 256 / 256 % 256 = omega arith in
    let h : byte_at 0 v ≡ v % 256 = omega arith in
    λ i. g i ∷ f i ∷ e i ∷ d i ∷ c i ∷ b i ∷ a i ∷ h i ∷ []

pub four-bytes : (v : ℕ) → take 4 (drop 4 (to_be_bytes w64 v)) ≡ spelled 4 v
unfolding spelled
four-bytes v = ap (λ (z : List ℕ). take 4 (drop 4 z)) (eight-bytes v)

-- a byte as a word, and eight bytes as two words
spelled-small : (n : ℕ) → n < 256 → spelled 4 n ≡ 0 ∷ 0 ∷ 0 ∷ n ∷ []
unfolding spelled
spelled-small n h =
    let a : n / 256 / 256 / 256 % 256 ≡ 0 = omega arith in
    let b : n / 256 / 256 % 256 ≡ 0 = omega arith in
    let c : n / 256 % 256 ≡ 0 = omega arith in
    let d : n % 256 ≡ n = omega arith in
    rw (a, b, c, d) refl

-- what is put in parts
module _ {s t u : List ℕ} {i j k : ℕ} where
  pub put-padded : (b : List ℕ) (n : ℕ) → n ≡ padding (length b) → i + length (padded_out b) ≤ length s → Put s i b t j → Put t j (replicate n 0) u k → Put s i (padded_out b) u k
  unfolding padded_out
  put-padded b n e h f g =
      let l = length-append b (replicate (padding (length b)) 0) in
      put_then (omega arith) f (put_is g (ap (λ (m : ℕ). replicate m 0) e))

  pub put-name : (n : List ℕ) (chars : ℕ) → length n ≡ chars → i + length (name_bytes (form 1) n) ≤ length s → Put s i (spelled 4 chars) t j → Put t j (padded_out n) u k → Put s i (name_bytes (form 1) n) u k
  unfolding name_bytes
  put-name n chars e h f g =
      let l = length-append (spelled 4 (length n)) (padded_out n) in
      put_then (omega arith) (put_is f (ap (spelled 4) (sym e))) g

  pub put-tagged : (tag n : ℕ) → tag < 256 → 0 < n → i + 8 ≤ length s → Put s i (spelled 4 tag) t j → Put t j (spelled 4 n) u k → Put s i (start_bytes tag n) u k
  unfolding start_bytes
  put-tagged tag zero h l room f g = absurd (omega arith)
  put-tagged tag (suc n) h l room f g =
      let m = length-spelled 4 tag in
      put_then (omega arith) (put_is f (spelled-small tag h)) g

-- how long the parts are
pub length-padded_out : (b : List ℕ) → length (padded_out b) ≡ length b + padding (length b)
unfolding padded_out
length-padded_out b = length-append b (replicate (padding (length b)) 0) ∙ ap (λ (n : ℕ). length b + n) (length-replicate (padding (length b)) 0)

pub length-name : (n : List ℕ) → length (name_bytes (form 1) n) ≡ 4 + length (padded_out n)
unfolding name_bytes
length-name n = length-append (spelled 4 (length n)) (padded_out n) ∙ ap (λ (k : ℕ). k + length (padded_out n)) (length-spelled 4 (length n))

pub length-start : (tag n : ℕ) → length (start_bytes tag n) ≡ 8
unfolding start_bytes
length-start tag zero = refl
length-start tag (suc n) = let l = length-spelled 4 (suc n) in omega arith

-- a list that is absent, and the part of a text that a slice is
pub put-absent : {s t : List ℕ} {i j : ℕ} (tag n : ℕ) → n ≡ 0 → Put s i (replicate 8 0) t j → Put s i (start_bytes tag n) t j
unfolding start_bytes
put-absent {s} {t} {i} {j} tag n e f = subst (λ (k : ℕ). Put s i (start_bytes tag k) t j) (sym e) f

pub slice-part : (at n : ℕ) → at + n - at ≡ n
slice-part at n = omega arith

-- a begin by its version
pub begin-four : (v : ℕ) → v ≡ 1 → (form v).begin_bytes ≡ 4
begin-four v e = rw e refl

pub begin-eight : (v : ℕ) → (v ≡ 1 → ⊥) → (form v).begin_bytes ≡ 8
begin-eight v e = rw (ne_eqb v 1 e) refl
