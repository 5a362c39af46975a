-- Laws of element reads.
use Prim.Native.Nat.{ℕ, ◌+◌, ◌-◌, ◌≤◌, ◌<◌}
use native.Mathlib.Omega.{arith}
use mathlib.Core.Path.{◌≡◌, refl, sym, ap, ◌∙◌}
use mathlib.Core.Bool.{Bool, true, false}
use mathlib.Core.List.{List, [], ◌∷◌}
use lib.ListN.{length}
use Rattle.std.specs.Prelude.{Option, Some, None}
use Rattle.std.proofs.lemmas.List.{get_or_past}
use Rattle.bigendian.specs.Number.{be}
use Rattle.cdf.specs.Step.{Step, got, bind, test, need, into}
use Rattle.cdf.proofs.Laws.Step.{by-got, test-came, got_same, test-same, bind-need, bind-got}
use Rattle.items.specs.Types.{size_of}
use Rattle.items.proofs.Laws.Types.{by_code}
use Rattle.reads.specs.Reads.{element_at, bits, holds}
use Rattle.reads.specs.Inner.Spot.{element_spot}
use Rattle.reads.specs.Element.{value_of, valued, element_with, element_of}
use Rattle.reads.specs.declared.element.Value.{Value}
use Rattle.reads.specs.declared.element.Value.TheVariants.{Byte, Char, Short, Int, Float, Double}
use Rattle.decode.specs.Decoded.{byte, short, int, float, double}
use Rattle.found.specs.declared.variable.Spread.{Spread}
use Rattle.reads.proofs.Laws.Reads.{held}

module _ (v : Spread) (have start r e : ℕ) {p : ℕ} (found : got p 0 ≡ element_spot v have start r e) where
  parts : (holds have start (element_at v r e) v.width ≡ true) × (p ≡ element_at v r e - start)
  unfolding element_spot
  parts =
      let a = test-came 18 0 found in
      let b = test-came 19 0 a.1 in
      let c = test-came 20 0 b.1 in
      (c.0, got_same c.1)

  pub spot_is : p ≡ element_at v r e - start
  spot_is = parts.1

  pub spot_in : {w : ℕ} → v.width ≡ w → p + w ≤ have
  spot_in size = let h = held have start (element_at v r e) v.width (sym parts.0) in let q = spot_is in omega arith

module _ (s : List ℕ) (start r e : ℕ) (v : Spread) where
  -- an element is its place in the window, and then what is made of its bits
  spot_parts : {A : Type 0} (f : ℕ → ℕ → A) → bind (element_spot v (length s) start r e) (λ _ _. got (f v.code (bits v s start r e)) 0) ≡ element_with f s start r e v
  unfolding element_spot
  spot_parts f =
      bind-need _ _ _ _ _ ∙ test-same _ _ (λ _. bind-need _ _ _ _ _ ∙ test-same _ _ (λ _. bind-need _ _ _ _ _ ∙ test-same _ _ (λ _. bind-got _ _ _)))

  module _ {p : ℕ} (spot : got p 0 ≡ element_spot v (length s) start r e) (width : v.width ≡ size_of v.code) where
    -- the number at the place that was found
    bits-there : be (size_of v.code) s p ≡ bits v s start r e
    bits-there = ap (λ (n : ℕ). be n s p) (sym width) ∙ ap (λ (n : ℕ). be v.width s n) (spot_is v (length s) start r e spot)

    pub spot_got : {A : Type 0} {b : ℕ} (f : ℕ → ℕ → A) → b ≡ be (size_of v.code) s p → got (f v.code b) 0 ≡ element_with f s start r e v
    spot_got f q = ap (λ (n : ℕ). got (f v.code n) 0) (q ∙ bits-there) ∙ by-got _ _ spot refl ∙ spot_parts f

-- no type has the code 0, nor one above 6: no value stands for it
pub valueless-zero : (b : ℕ) → value_of 0 b ≡ None
valueless-zero b = refl

pub valueless-above : (b code : ℕ) → 6 < code → value_of code b ≡ None
valueless-above b code h =
    get_or_past (None ∷ Some (Byte (byte b)) ∷ Some (Char b) ∷ Some (Short (short b)) ∷ Some (Int (int b)) ∷ Some (Float (float b) b) ∷ Some (Double (double b) b) ∷ []) code None h

-- each code of a type has a value, so an element of a variable that has a type answers one
valued-got : (b code : ℕ) → 1 ≤ code → code ≤ 6 → into Some (valued (value_of code b)) ≡ got (value_of code b) 0
unfolding into
valued-got b = by_code (λ code. into Some (valued (value_of code b)) ≡ got (value_of code b) 0) refl refl refl refl refl refl

valued-need : (b : Bool) (k p : ℕ) (x : Step (Option Value)) → into Some (bind x (λ w _. valued w)) ≡ x → into Some (bind (need b k p x) (λ w _. valued w)) ≡ need b k p x
unfolding into bind test
valued-need true k p x e = e
valued-need false k p x e = refl

pub element-valued : (s : List ℕ) (start r e : ℕ) (v : Spread) → 1 ≤ v.code → v.code ≤ 6 → into Some (element_of s start r e v) ≡ element_with value_of s start r e v
unfolding element_of bind
element-valued s start r e v low high = valued-need _ _ _ _ (valued-need _ _ _ _ (valued-need _ _ _ _ (valued-got (bits v s start r e) v.code low high)))
