-- Sums over the items of lists, and over rows.
use Prim.Native.Nat.{ℕ, zero, suc, ◌+◌, ◌≤◌, ◌<◌}
use native.Mathlib.Omega.{arith}
use mathlib.Core.Path.{◌≡◌, refl, sym, ap, ◌∙◌}
use mathlib.Core.List.{List, [], ◌∷◌, map}
use lib.ListN.{length, get_or, take, drop, length-append, length-drop}
use lib.Seq.{get_or-drop}
use Rattle.grammar.specs.Meaning.{Variable}
use Rattle.rules.specs.Capacity.{attributes_of}
use Rattle.rules.specs.Encode.{each}
use Rattle.sizes.specs.Records.{total}

-- h x + .. over the items x of a list
unfoldable pub sum_over : {A : Type 0} → (A → ℕ) → List A → ℕ
sum_over h [] = 0
sum_over h (x ∷ xs) = h x + sum_over h xs

pub each-length : {A : Type 0} (g : A → List ℕ) (xs : List A) → length (each g xs) ≡ sum_over (λ (x : A). length (g x)) xs
unfolding each sum_over
each-length g [] = refl
each-length g (x ∷ xs) = length-append (g x) (each g xs) ∙ ap (λ (n : ℕ). length (g x) + n) (each-length g xs)

pub attributes-length : (vs : List Variable) → length (attributes_of vs) ≡ sum_over (λ (v : Variable). length v.attributes) vs
unfolding attributes_of sum_over
attributes-length [] = refl
attributes-length (v ∷ vs) = length-append v.attributes (attributes_of vs) ∙ ap (λ (n : ℕ). length v.attributes + n) (attributes-length vs)

pub sum-map : {A B : Type 0} (h : B → ℕ) (f : A → B) (xs : List A) → sum_over h (map f xs) ≡ sum_over (λ (x : A). h (f x)) xs
unfolding sum_over
sum-map h f [] = refl
sum-map h f (x ∷ xs) = ap (λ (n : ℕ). h (f x) + n) (sum-map h f xs)

total-front : (g : ℕ → ℕ) (n : ℕ) → total g (suc n) ≡ g 0 + total (λ i. g (suc i)) n
unfolding total
total-front g zero = omega arith
total-front g (suc n) = let e = total-front g n in omega arith

pub total-same : (g h : ℕ → ℕ) (n : ℕ) → ((i : ℕ) → i < n → g i ≡ h i) → total g n ≡ total h n
unfolding total
total-same g h zero k = refl
total-same g h (suc n) k = let e = total-same g h n (λ i l. k i (omega arith)) in let f = k n (omega arith) in omega arith

pub sum-take : {A : Type 0} (h : A → ℕ) (d : A) (xs : List A) (n : ℕ) → n ≤ length xs → sum_over h (take n xs) ≡ total (λ i. h (get_or xs i d)) n
unfolding sum_over total
sum-take h d xs zero l = refl
sum-take h d [] (suc n) l = absurd (omega arith)
sum-take h d (x ∷ xs) (suc n) l = ap (λ (m : ℕ). h x + m) (sum-take h d xs n (omega arith)) ∙ sym (total-front (λ i. h (get_or (x ∷ xs) i d)) n)

pub sum-span : {A : Type 0} (h : A → ℕ) (d : A) (xs : List A) (first n : ℕ) → first + n ≤ length xs → sum_over h (take n (drop first xs)) ≡ total (λ j. h (get_or xs (first + j) d)) n
sum-span h d xs first n l =
    let e = length-drop first xs in
    sum-take h d (drop first xs) n (omega arith) ∙ total-same _ _ n (λ j _. ap h (get_or-drop first xs j d))
