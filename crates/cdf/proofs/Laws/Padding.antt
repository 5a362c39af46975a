-- Laws of padding.
use Prim.Native.Nat.{ℕ, ◌+◌, ◌-◌, ◌≤◌, ◌<◌}
use mathlib.Core.Path.{◌≡◌, refl, sym, ap, ◌∙◌}
use mathlib.Core.Bool.{true}
use mathlib.Core.List.{List}
use native.Mathlib.Omega.{arith}
use lib.ListN.{length, get_or, take, drop, length-drop}
use lib.Seq.{length-take-le}
use Rattle.std.proofs.lemmas.List.{get_or-take, get_or-drop}
use Rattle.std.specs.List.{list_all}
use Rattle.std.specs.Bool.{◌==◌}
use lib.Dec.{eqb}
use borrow.Author.Tests.{le-leb, eq-eqb}
use Rattle.cdf.specs.Step.{got}
use Rattle.cdf.specs.Padding.{padding, zeros, zero_padding}
use Rattle.cdf.proofs.Laws.Step.{by-true}
use Rattle.cdf.specs.Below.{all_below}
use Rattle.cdf.proofs.Laws.Below.{all_hold, each-below, same-below}

-- the n bytes of s from a place, as a part of it
pub zeros_part : (n : ℕ) (s : List ℕ) (at e : ℕ) → e ≡ at + n → e ≤ length s → list_all (λ b. b == 0) (take (e - at) (drop at s)) ≡ zeros n s at
unfolding zeros
zeros_part n s at e h l =
    let many : e - at ≡ n = omega arith in
    let long : length (take n (drop at s)) ≡ n = length-take-le n (drop at s) (omega (arith, length-drop at s)) in
    rw many
    (each-below (λ b. b == 0) 0 (take n (drop at s))
    ∙ ap (λ k. all_below k (λ i. eqb (get_or (take n (drop at s)) i 0) 0)) long
    ∙ same-below n _ _ (λ i m. ap (λ b. eqb b 0) (get_or-take n (drop at s) i 0 m ∙ get_or-drop at s i 0)))

module _ (n : ℕ) (s : List ℕ) (at : ℕ) where
  pub zeros-all : ((i : ℕ) → i < n → get_or s (at + i) 0 ≡ 0) → true ≡ zeros n s at
  unfolding zeros
  zeros-all h = sym (all_hold _ n (λ i l. eq-eqb (get_or s (at + i) 0) 0 (h i l)))

module _ (n : ℕ) (s : List ℕ) (size at : ℕ) {k : ℕ} (is : k ≡ padding n) where
  pub padding-got : at + k ≤ length s → true ≡ zeros k s at → got tt (at + k) ≡ zero_padding n s size at
  unfolding zero_padding
  padding-got h z = rw is (by-true _ (le-leb _ _ (rw is at h)) (by-true _ (rw is at (sym z)) refl))
