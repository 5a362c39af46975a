-- Laws of lines in blocks of text.
use Rattle.std.proofs.Common.{ℕ, zero, suc, ◌≡◌, ◌+◌, ◌≤◌, ◌<◌, true, false, List, [], ◌∷◌, ◌++◌, length, take, get_or, min, eqb, arith}
use mathlib.Core.Path.{sym, ◌∙◌}
use mathlib.Core.Logic.{⊎_elim}
use mathlib.Core.Bool.{Bool, not}
use native.Mathlib.Nat.{eq-or-lt_of_le}
use Rattle.std.specs.List.{position_or_len}
use Rattle.std.proofs.Math.Seq.{take-append-add}
use Rattle.std.proofs.lemmas.Grind.{common_steps}
use Rattle.std.proofs.lemmas.List.Sums.{prefix_len-le-length}
use Rattle.cdf.proofs.Laws.Below.{first-none, first-is}
use Rattle.hexlines.specs.Lines.{newline}
use Rattle.hexlines.specs.Inner.Cut.{before}

-- what is added to a line that is short enough is cut where the line becomes too long
pub take-room : (n m : ℕ) (x y : List ℕ) → length x + m ≡ n → x ++ take m y ≡ take n (x ++ y)
take-room n m x y e = rw (← e) (sym (take-append-add x y m))

pub take-min : (n : ℕ) (y : List ℕ) → take (min (length y) n) y ≡ take n y
take-min n y = grind (arith, common_steps)

-- what is added to the first n of a list, and cut again, is what is added to the whole and cut
pub take-grow : (n : ℕ) (x y : List ℕ) → take n (take n x ++ y) ≡ take n (x ++ y)
take-grow n x y = grind (arith, common_steps)

abbrev pub is_end : ℕ → Bool
is_end c = eqb c newline

unended : (s : List ℕ) (k : ℕ) → k < position_or_len is_end s → is_end (get_or s k 0) ≡ false
unended [] k l = grind (arith, common_steps)
unended (c ∷ cs) zero l = grind (arith, common_steps)
unended (c ∷ cs) (suc k) l = let r = unended cs k in grind (arith, common_steps, r)

ended : (s : List ℕ) → position_or_len is_end s < length s → is_end (get_or s (position_or_len is_end s) 0) ≡ true
ended [] l = grind (arith, common_steps)
ended (c ∷ cs) l = let r = ended cs in grind (arith, common_steps, r)

pub pos_le : (s : List ℕ) → position_or_len is_end s ≤ length s
pos_le s = prefix_len-le-length (λ c. not (is_end c)) s

-- where the library finds the first line end
pub before-position : (s : List ℕ) → before s ≡ position_or_len (λ c. eqb c newline) s
unfolding before
before-position s =
    ⊎_elim
    (λ (e : position_or_len is_end s ≡ length s). first-none _ (length s) (λ k l. unended s k (omega (arith, e))) ∙ sym e)
    (λ (l : position_or_len is_end s < length s). first-is _ (length s) (position_or_len is_end s) l (λ k m. unended s k m) (ended s l))
    (eq-or-lt_of_le (pos_le s))
