-- Laws of numbers as their bytes.
use Prim.Native.Nat.{ℕ, zero, suc, ◌+◌, ◌-◌, ◌*◌, ◌/◌, ◌%◌, ◌^◌, ◌≤◌, ◌<◌}
use native.Mathlib.Omega.{arith}
use native.Mathlib.Nat.{pow-suc, add_assoc, zero-add, mul_assoc, pow-le-pow_right}
use mathlib.Core.Path.{◌≡◌, refl, ap, sym, ◌∙◌}
use mathlib.Core.List.{List, [], ◌∷◌, ◌++◌, append_assoc}
use lib.ListN.{length, get_or, take, drop, length-append, length-drop}
use lib.Seq.{get_or-drop, take-suc, take_at, drop_at, get_or_at}
use Rattle.bigendian.specs.Number.{be, half}
use Rattle.cdf.specs.Word.{indeterminate}
use Rattle.rules.specs.Rules.{spelled}

doubled : (m n c : ℕ) → 2 ^ m ≡ 2 ^ n * c → 2 ^ suc m ≡ 2 ^ n * (c * 2)
doubled m n c e = pow-suc 2 m ∙ ap (λ (x : ℕ). x * 2) e ∙ mul_assoc (2 ^ n) c 2

-- bytes of 8 bits
pub pow-256 : (k : ℕ) → 2 ^ (8 * k) ≡ 256 ^ k
pow-256 zero = refl
pow-256 (suc k) = ap (λ (n : ℕ). 2 ^ n) (more k) ∙ eight (8 * k) ∙ ap (λ (n : ℕ). n * 256) (pow-256 k) ∙ sym (pow-suc 256 k)
  where
    more : (k : ℕ) → 8 * suc k ≡ suc (suc (suc (suc (suc (suc (suc (suc (8 * k))))))))
    more k = omega arith

    eight : (n : ℕ) → 2 ^ suc (suc (suc (suc (suc (suc (suc (suc n))))))) ≡ 2 ^ n * 256
    eight n = doubled _ n 128 (doubled _ n 64 (doubled _ n 32 (doubled _ n 16 (doubled _ n 8 (doubled _ n 4 (doubled _ n 2 (pow-suc 2 n)))))))

pub half-fits : (k : ℕ) → half k ≤ 256 ^ k
half-fits k = rw (← pow-256 k) (pow-le-pow_right {n = 2} (omega arith) {i = 8 * k - 1} {j = 8 * k} (omega arith))

pub open-fits : (k : ℕ) → indeterminate k < 256 ^ k
open-fits k = let p = pow-256 k in let l = half-fits k in let h = pow-le-pow_right {n = 2} (omega arith) {i = 0} {j = 8 * k - 1} (omega arith) in omega arith

pub length-spelled : (k n : ℕ) → length (spelled k n) ≡ k
unfolding spelled
length-spelled zero n = refl
length-spelled (suc k) n = let l = length-append (spelled k (n / 256)) (n % 256 ∷ []) in let i = length-spelled k (n / 256) in omega arith

pub be-drop : (k : ℕ) (s : List ℕ) (c p : ℕ) → be k (drop c s) p ≡ be k s (c + p)
unfolding be
be-drop zero s c p = refl
be-drop (suc k) s c p =
    let e = be-drop k s c p in
    let f : get_or (drop c s) (p + k) 0 ≡ get_or s (c + p + k) 0 = get_or-drop c s (p + k) 0 ∙ ap (λ (i : ℕ). get_or s i 0) (sym (add_assoc c p k)) in
    cc

-- the number that is spelled is read
be-front : (k n : ℕ) (u : List ℕ) → n < 256 ^ k → be k (spelled k n ++ u) 0 ≡ n
unfolding be spelled
be-front zero n u h = omega arith
be-front (suc k) n u h =
    let p = pow-suc 256 k in
    let q = spelled k (n / 256) in
    let r = n % 256 ∷ u in
    let i : be k (q ++ r) 0 ≡ n / 256 = be-front k (n / 256) r (omega arith) in
    let j : get_or (q ++ r) (0 + k) 0 ≡ n % 256 = get_or_at q (n % 256) u 0 (0 + k) (length-spelled k (n / 256) ∙ sym (zero-add k)) in
    ap (λ (l : List ℕ). be k l 0 * 256 + get_or l (0 + k) 0) (append_assoc q (n % 256 ∷ []) u) ∙ (let z : be k (q ++ r) 0 * 256 + get_or (q ++ r) (0 + k) 0 ≡ n = omega arith in z)

pub be-spelled : (k n : ℕ) (s u : List ℕ) (at : ℕ) → drop at s ≡ spelled k n ++ u → n < 256 ^ k → be k s at ≡ n
be-spelled k n s u at e h = let z : at + 0 ≡ at = omega arith in ap (be k s) (sym z) ∙ sym (be-drop k s at 0) ∙ ap (λ (l : List ℕ). be k l 0) e ∙ be-front k n u h

-- and the number that is read is spelled by its bytes
pub spelled-be : (s : List ℕ) → ((i : ℕ) → get_or s i 0 < 256) → (k at : ℕ) → at + k ≤ length s → spelled k (be k s at) ≡ take k (drop at s)
unfolding be spelled
spelled-be s bytes zero at h = refl
spelled-be s bytes (suc k) at h =
    let x = be k s at in
    let b = get_or s (at + k) 0 in
    let l = length-drop at s in
    let c = bytes (at + k) in
    let d : (x * 256 + b) / 256 ≡ x = omega arith in
    let m : (x * 256 + b) % 256 ≡ b = omega arith in
    let i = spelled-be s bytes k at (omega arith) in
    rw (d, m, i, take-suc (drop at s) k 0 (omega arith), get_or-drop at s k 0)

-- two lists of equal length, each with a rest
pub same-front : {A : Type 0} (p q u v : List A) → length p ≡ length q → p ++ u ≡ q ++ v → (p ≡ q) × (u ≡ v)
same-front {A = A} p q u v l e =
    (sym (take_at p u (length p) refl) ∙ ap (take (length p)) e ∙ take_at q v (length p) (sym l), sym (drop_at p u (length p) refl) ∙ ap (drop (length p)) e ∙ drop_at q v (length p) (sym l))

pub spelled_same : (k n m : ℕ) (u v : List ℕ) → n < 256 ^ k → m < 256 ^ k → spelled k n ++ u ≡ spelled k m ++ v → (n ≡ m) × (u ≡ v)
spelled_same k n m u v h l e =
    (sym (be-front k n u h) ∙ ap (λ (s : List ℕ). be k s 0) e ∙ be-front k m v l, (same-front (spelled k n) (spelled k m) u v (length-spelled k n ∙ sym (length-spelled k m)) e).1)
