-- Laws of bytes that are compared as parts of a text.
use Prim.Native.Nat.{ℕ, ◌+◌, ◌≤◌}
use native.Mathlib.Omega.{arith}
use mathlib.Core.Path.{◌≡◌, refl, sym, ap, ◌∙◌}
use mathlib.Core.Bool.{Bool, true, false, ◌&&◌}
use mathlib.Core.List.{List}
use lib.ListN.{length, get_or, take, drop}
use lib.Dec.{eqb}
use borrow.Author.Tests.{eq-eqb, eqb-true}
use Rattle.cdf.specs.Below.{all_below}
use Rattle.std.specs.Cmp.Lexicographic.{pointwise}
use Rattle.std.proofs.lemmas.Slice.Eq.{bytes_eq-Decides}
use Rattle.std.proofs.lemmas.Grind.{same_number_lists}
use Rattle.std.proofs.lemmas.List.{get_or-take, get_or-drop, length-take-le, length-drop}
use Rattle.model.proofs.Laws.Rows.{all-same}
use Rattle.cdf.proofs.Laws.Below.{both, all_hold, holds_at}
use Rattle.items.specs.Name.{same_bytes}

-- two lists of bytes are the same where their lengths are and each byte is
pub same-lists : (xs ys : List ℕ) → pointwise eqb xs ys ≡ (eqb (length xs) (length ys) && all_below (length xs) (λ k. eqb (get_or xs k 0) (get_or ys k 0)))
same-lists xs ys = same _ _ forth back
  where
    same : (a b : Bool) → (a ≡ true → b ≡ true) → (b ≡ true → a ≡ true) → a ≡ b
    same true b f g = sym (f refl)
    same false true f g = g refl
    same false false f g = refl

    forth : pointwise eqb xs ys ≡ true → (eqb (length xs) (length ys) && all_below (length xs) (λ k. eqb (get_or xs k 0) (get_or ys k 0))) ≡ true
    forth e =
        let q = (bytes_eq-Decides xs ys).0 e in
        rw (eq-eqb _ _ (ap length q)) (all_hold _ (length xs) (λ k l. eq-eqb _ _ (ap (λ (zs : List ℕ). get_or zs k 0) q)))

    back : (eqb (length xs) (length ys) && all_below (length xs) (λ k. eqb (get_or xs k 0) (get_or ys k 0))) ≡ true → pointwise eqb xs ys ≡ true
    back e =
        let p = both _ _ e in
        (bytes_eq-Decides xs ys).1 (same_number_lists xs ys (eqb-true _ _ p.0) (λ k l. eqb-true _ _ (holds_at _ (length xs) k p.1 l)))

-- two parts of a text
pub same-parts : (s : List ℕ) (a b n : ℕ) {m l : ℕ} → m ≡ n → l ≡ n → a + n ≤ length s → b + n ≤ length s → pointwise eqb (take m (drop a s)) (take l (drop b s)) ≡ same_bytes s a s b n
unfolding same_bytes
same-parts s a b n {m} {l} e f g h =
    let x = take m (drop a s) in
    let y = take l (drop b s) in
    let p : length x ≡ n = length-take-le m (drop a s) (omega (arith, length-drop a s)) ∙ e in
    let q : length y ≡ n = length-take-le l (drop b s) (omega (arith, length-drop b s)) ∙ f in
    same-lists x y
    ∙ ap (λ (t : Bool). t && all_below (length x) (λ k. eqb (get_or x k 0) (get_or y k 0))) (eq-eqb (length x) (length y) (p ∙ sym q))
    ∙ ap (λ (k : ℕ). all_below k (λ i. eqb (get_or x i 0) (get_or y i 0))) p
    ∙ all-same _ _ n
    (λ k i.
    ap (λ (z : ℕ). eqb z (get_or y k 0)) (get_or-take m (drop a s) k 0 (omega arith) ∙ get_or-drop a s k 0)
    ∙ ap (λ (z : ℕ). eqb (get_or s (a + k) 0) z) (get_or-take l (drop b s) k 0 (omega arith) ∙ get_or-drop b s k 0))
