-- What crosses comes back.
use Prim.Native.Nat.{ℕ}
use native.Mathlib.Omega.{arith}
use mathlib.Core.Path.{◌≡◌, sym, ap, ◌∙◌}
use mathlib.Core.List.{List, ◌++◌}
use Rattle.cdf.specs.Step.{Step, got, stop}
use Rattle.found.specs.Sought.{sought}
use Rattle.reads.specs.Reads.{record_from, whole_from}
use Rattle.reads.specs.Element.{element_from}
use Rattle.reads.specs.Inner.Bounded.{Bounded}
use Rattle.found.specs.declared.variable.Spread.{Spread}
use Rattle.reads.proofs.Laws.Bounded.{found}
use Rattle.crossing.proofs.Laws.Back.{loaded-stored}
use Rattle.exports.specs.Variable.{spread_words, spread_of, taken}
use Rattle.exports.proofs.Laws.Variable.{taken-got}
use Rattle.demands.specs.Crossing.{StoredIsLoaded, PlacedIsTaken, PlacedIsRead, RefusalsLeaveParts}
use Rattle.demands.specs.FoundOnce.{KeptOutputs, KeptElements}
use Rattle.demands.proofs.FoundOnce.{kept-outputs, kept-elements}

pub stored-is-loaded : StoredIsLoaded
unfolding StoredIsLoaded
stored-is-loaded t rest full = loaded-stored t full rest

-- a variable of bounded numbers, taken up
again : (v : Spread) (rest : List ℕ) → Bounded v → got v 0 ≡ taken (spread_words v ++ rest)
unfolding spread_words spread_of
again v rest b =
    taken-got (spread_words v ++ rest) (omega arith) b.low b.high
    (ap (λ (w : ℕ). record { begin = v.begin; records = v.records; step = v.step; chunk = v.chunk; width = w; code = v.code }) b.size)

pub placed-is-taken : PlacedIsTaken
unfolding PlacedIsTaken
placed-is-taken t i v rest e = sym (again v rest (found t i (sym e))) ∙ sym e

pub placed-is-read : PlacedIsRead
unfolding PlacedIsRead PlacedIsTaken KeptOutputs KeptElements
placed-is-read A F code t s start i out v rest e =
    let is : taken (spread_words v ++ rest) ≡ sought t i = placed-is-taken t i v rest e in (
      λ r. ap (λ (m : Step Spread). record_from F code m s start r out) is ∙ (kept-outputs A F code t s start i out).0 r,
      ap (λ (m : Step Spread). whole_from F code m s start out) is ∙ (kept-outputs A F code t s start i out).1,
      λ r e. ap (λ (m : Step Spread). element_from m s start r e) is ∙ (kept-elements t s start i r e).0,
    )

pub refusals-leave-parts : RefusalsLeaveParts
unfolding RefusalsLeaveParts
refusals-leave-parts A B (got x n) k part old new e z p = absurd (z e)
refusals-leave-parts A B (stop i n) k part old new e z p = p
