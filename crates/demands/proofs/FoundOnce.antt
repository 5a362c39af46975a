-- A variable that is found once and kept is read as from the tables.
use Prim.Native.Nat.{ℕ}
use mathlib.Core.Path.{◌≡◌, refl, sym, ap, ◌∙◌}
use mathlib.Core.Bool.{Bool, true, false}
use mathlib.Core.List.{List}
use Rattle.std.specs.Prelude.{Option, Some}
use Rattle.cdf.specs.Step.{Step, got, stop, bind, test, into}
use Rattle.found.specs.Sought.{sought}
use Rattle.reads.specs.Kept.{kept}
use Rattle.reads.specs.Reads.{record_of, record_read, record_from, whole_of, whole_read, whole_from}
use Rattle.reads.specs.Element.{value_of, element_with, element_of, element_read, element_read_as, element_from, element_from_as, bits_from}
use Rattle.found.specs.declared.variable.Spread.{Spread}
use Rattle.reads.specs.declared.bits.Bits.{Bits}
use Rattle.reads.specs.declared.element.Value.{Value}
use Rattle.reads.specs.Inner.Bounded.{Bounded}
use Rattle.reads.proofs.Laws.Element.{element-valued}
use Rattle.reads.proofs.Laws.Kept.{kept-bounded, found-kept, found-kept-as}
use Rattle.demands.specs.FoundOnce.{KeptOutputs, KeptElements}

into-bind : {A B C D : Type 0} (g : B → D) (q : C → D) (m : Step A) (f : A → Step B) (h : A → Step C) → ((a : A) (n : ℕ) → got a n ≡ m → into g (f a) ≡ into q (h a))
    → into g (bind m (λ a _. f a)) ≡ into q (bind m (λ a _. h a))
unfolding bind into
into-bind g q (got a n) f h e = e a n refl
into-bind g q (stop k p) f h e = refl

into-need : {A B : Type 0} (g : A → B) (b : Bool) (k p : ℕ) (x : Step A) (y : Step B) → into g x ≡ y → into g (test b x (stop k p)) ≡ test b y (stop k p)
unfolding test into
into-need g true k p x y e = e
into-need g false k p x y e = refl

pub kept-outputs : KeptOutputs
unfolding KeptOutputs record_read record_from whole_read whole_from
kept-outputs A F code t s start i out = (
  λ r. ap (λ (m : Step Spread). bind m (λ v _. record_of F s start r out v)) (found-kept-as code t i),
  ap (λ (m : Step Spread). bind m (λ v _. whole_of F s start out v)) (found-kept-as code t i),
)

-- the value that a code and bits stand for
abbrev value : Bits → Option Value
value b = value_of b.code b.bits

bits-value : (s : List ℕ) (start r e : ℕ) (v : Spread) → Bounded v → into value (element_with (λ code b. record { code = code; bits = b }) s start r e v) ≡ into Some (element_of s start r e v)
unfolding into
bits-value s start r e v b =
    let told : into value (element_with (λ code b. record { code = code; bits = b }) s start r e v) ≡ element_with value_of s start r e v = into-need value _ 18 0 _ _ (into-need value _ 19 0 _ _ (into-need value _ 20 0 _ _ refl)) in
    told ∙ sym (element-valued s start r e v b.low b.high)

pub kept-elements : KeptElements
unfolding KeptElements element_read element_read_as element_from element_from_as bits_from
kept-elements t s start i r e = (
  ap (λ (m : Step Spread). bind m (λ v _. element_of s start r e v)) (found-kept t i),
  (λ code. ap (λ (m : Step Spread). bind m (λ v _. element_of s start r e v)) (found-kept-as code t i)),
  into-bind value Some (kept (sought t i)) _ _ (λ v n k. bits-value s start r e v (kept-bounded (sought t i) k))
      ∙ ap (λ (m : Step Spread). into Some (bind m (λ v _. element_of s start r e v))) (found-kept t i),
)
