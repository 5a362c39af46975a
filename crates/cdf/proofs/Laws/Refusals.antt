-- Laws of refusals and their numbers.
use Prim.Native.Nat.{ℕ}
use mathlib.Core.Path.{◌≡◌, refl, sym, ap, ◌∙◌}
use mathlib.Core.Bool.{Bool, true, false}
use mathlib.Core.List.{[], ◌∷◌}
use lib.Dec.{leb}
use lib.ListN.{get_or}
use Rattle.std.specs.Prelude.{Result, Ok, Err}
use Rattle.cdf.specs.Refusals.{number, of_result}
use Rattle.cdf.specs.declared.refusal.Refusal.{Refusal}
use Rattle.cdf.specs.declared.refusal.Refusal.TheVariants.{Unfinished, Truncated, NotCdf, Version, WordRange, NotUtf8, Padding, TypeCode, ListStart, Capacity, Model, Sizes, Rest, SizeBelowRecords, Ends, NoVariable, OtherType, NoRecord, NoElement, Window, FileSize, OutputRoom, Tables, BeginInHeader, BeginTooFar}

-- the refusal of a number
abbrev named : ℕ → Refusal
named n = get_or (Unfinished ∷ Unfinished ∷ Truncated ∷ NotCdf ∷ Version ∷ WordRange ∷ NotUtf8 ∷ Padding ∷ TypeCode ∷ ListStart ∷ Capacity ∷ Model ∷ Sizes ∷ Rest ∷ SizeBelowRecords ∷ Ends ∷ NoVariable ∷ OtherType ∷ NoRecord ∷ NoElement ∷ Window ∷ FileSize ∷ OutputRoom ∷ Tables ∷ BeginInHeader ∷ BeginTooFar ∷ []) n Unfinished

of-number : (k : Refusal) → (named (number k) ≡ k) × (leb 1 (number k) ≡ true)
of-number Unfinished = (refl, refl)
of-number Truncated = (refl, refl)
of-number NotCdf = (refl, refl)
of-number Version = (refl, refl)
of-number WordRange = (refl, refl)
of-number NotUtf8 = (refl, refl)
of-number Padding = (refl, refl)
of-number TypeCode = (refl, refl)
of-number ListStart = (refl, refl)
of-number Capacity = (refl, refl)
of-number Model = (refl, refl)
of-number Sizes = (refl, refl)
of-number Rest = (refl, refl)
of-number SizeBelowRecords = (refl, refl)
of-number Ends = (refl, refl)
of-number NoVariable = (refl, refl)
of-number OtherType = (refl, refl)
of-number NoRecord = (refl, refl)
of-number NoElement = (refl, refl)
of-number Window = (refl, refl)
of-number FileSize = (refl, refl)
of-number OutputRoom = (refl, refl)
of-number Tables = (refl, refl)
of-number BeginInHeader = (refl, refl)
of-number BeginTooFar = (refl, refl)

-- none has the number 0, and no two the same
pub refused : (k : Refusal) → number k ≡ 0 → ⊥
refused k e = let f : ◌≡◌ {A = Bool} true false = sym (of-number k).1 ∙ ap (leb 1) e in cc

pub same-number : (k l : Refusal) → number k ≡ number l → k ≡ l
same-number k l e = sym (of-number k).0 ∙ ap named e ∙ (of-number l).0

-- a result is told whole by the step that it means
pub same_result : {A : Type 0} (r q : Result A Refusal) → of_result r ≡ of_result q → r ≡ q
same_result (Ok x) (Ok y) e = let f : x ≡ y = cc in ap (λ z. Ok z) f
same_result (Ok x) (Err l) e = cc
same_result (Err k) (Ok y) e = cc
same_result (Err k) (Err l) e = let f : number k ≡ number l = cc in ap (λ z. Err z) (same-number k l f)
