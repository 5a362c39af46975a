-- Items that are read one after the other, from place to place of the same bytes.
use Prim.Native.Nat.{ℕ, ◌+◌, ◌≤◌, ◌<◌}
use mathlib.Core.Path.{◌≡◌, refl, ◌∙◌}
use mathlib.Core.List.{List, [], ◌∷◌, ◌++◌}
use Rattle.cdf.specs.Step.{Step, got, stop, items}
use Rattle.cdf.specs.Inner.Answers.{Along}
use Rattle.cdf.specs.declared.place.Place.{Place}
use Rattle.cdf.proofs.Laws.Step.{Read, read_none, read_more, read-stop, read_done}

-- the first i of n items, those of a list, were read from one place to another
pub record Took {A : Type 0} (f : List ℕ → ℕ → List A → ℕ → Step A) (n : ℕ) (from : Place) (i : ℕ) (xs : List A) (to : Place) : Type 0 where
  pub same : Along from to
  pub read : Read (f from.bytes.now from.size) n from.at i xs to.at

-- none yet; one more; a refusal; the end
module _ {A : Type 0} {f : List ℕ → ℕ → List A → ℕ → Step A} {n : ℕ} {from : Place} where
  pub took_none : Took f n from 0 [] from
  took_none = record { same = (refl, refl); read = read_none }

  module _ {i : ℕ} {xs : List A} {to : Place} (so : Took f n from i xs to) where
    here : f to.bytes.now to.size xs to.at ≡ f from.bytes.now from.size xs to.at
    here = rw (so.same.0, so.same.1)

    pub took_more : {x : A} {next : Place} → i < n → got x next.at ≡ f to.bytes.now to.size xs to.at → Along to next → Took f n from (i + 1) (xs ++ (x ∷ [])) next
    took_more h e s = record { same = (s.0 ∙ so.same.0, s.1 ∙ so.same.1); read = read_more so.read h (e ∙ here) }

    pub took-stop : {k p : ℕ} → i < n → stop k p ≡ f to.bytes.now to.size xs to.at → stop k p ≡ items (f from.bytes.now from.size) n [] from.at
    took-stop h e = read-stop so.read h (e ∙ here)

    pub took_done : n ≤ i → got xs to.at ≡ items (f from.bytes.now from.size) n [] from.at
    took_done h = read_done so.read h
