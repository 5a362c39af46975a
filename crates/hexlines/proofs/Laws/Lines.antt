-- Laws of the lines of a text: up to a line end, or where there is none.
use Prim.Native.Nat.{ℕ, suc, ◌+◌, ◌≤◌, ◌<◌}
use native.Mathlib.Omega.{arith}
use native.Mathlib.Numerals.{add-one}
use mathlib.Core.Path.{◌≡◌, sym, ap, ◌∙◌}
use mathlib.Core.List.{List, [], ◌∷◌, ◌++◌, append_assoc, append-nil}
use lib.ListN.{length, take, get_or}
use lib.Seq.{take-suc, get_or-take, length-take-le}
use lib.Dec.{eqb}
use borrow.Author.Tests.{ne_eqb, eqb-true, eqb-false}
use Rattle.cdf.proofs.Laws.Below.{first_some, any-first, first-before}
use Rattle.hexlines.specs.Lines.{newline, lines}
use Rattle.hexlines.specs.Inner.Cut.{before}

-- characters without a line end go on with the line
plain : (d begun rest : List ℕ) → ((k : ℕ) → k < length d → get_or d k 0 ≡ newline → ⊥) → lines begun (d ++ rest) ≡ lines (begun ++ d) rest
unfolding lines
plain [] begun rest h = ap (λ (b : List ℕ). lines b rest) (sym (append-nil begun))
plain (c ∷ cs) begun rest h =
    rw (ne_eqb c newline (h 0 (omega arith)))
    (plain cs (begun ++ (c ∷ [])) rest (λ k l. h (suc k) (omega arith)) ∙ ap (λ (b : List ℕ). lines b rest) (append_assoc begun (c ∷ []) cs))

module _ (d begun rest : List ℕ) where
  none_before : (k : ℕ) → k < before d → get_or d k 0 ≡ newline → ⊥
  unfolding before
  none_before k l = eqb-false _ newline (first-before (λ i. eqb (get_or d i 0) newline) (length d) k l)

  -- no line end: the line stays open
  pub lines-open : length d ≤ before d → lines begun (d ++ rest) ≡ lines (begun ++ d) rest
  lines-open h = plain d begun rest (λ k l. none_before k (omega arith))

  module _ (some : before d < length d) where
    met : get_or d (before d) 0 ≡ newline
    unfolding before
    met = eqb-true _ newline (first_some (λ i. eqb (get_or d i 0) newline) (length d) (any-first (λ i. eqb (get_or d i 0) newline) (length d) some)).1

    -- the first line end closes the line
    pub lines-close : lines begun (take (before d + 1) d ++ rest) ≡ (begun ++ take (before d) d) ∷ lines [] rest
    unfolding lines
    lines-close =
        let n = before d in
        let a = take n d in
        let part : take (n + 1) d ≡ a ++ (newline ∷ []) = ap (λ (k : ℕ). take k d) (add-one n) ∙ take-suc d n 0 some ∙ ap (λ (c : ℕ). a ++ (c ∷ [])) met in
        let len = length-take-le n d (omega arith) in
        ap (λ (x : List ℕ). lines begun (x ++ rest)) part
        ∙ ap (lines begun) (append_assoc a (newline ∷ []) rest)
        ∙ plain a begun (newline ∷ rest) (λ k l. let m : k < n = omega arith in λ e. none_before k m (sym (get_or-take n d k 0 m) ∙ e))
