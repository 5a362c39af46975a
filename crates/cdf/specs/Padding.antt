-- Padding (01, Header grammar: "Padding after n bytes"; BNF: padding).
use Rattle.std.specs.Prelude.{ℕ, ◌+◌, ◌-◌, ◌%◌, Bool, List, get_or, eqb}
use Rattle.cdf.specs.Step.{Step, got, need, at_hand}
use Rattle.cdf.specs.Below.{all_below}

-- 01: (4 − n mod 4) mod 4
abbrev pub padding : ℕ → ℕ
padding n = (4 - n % 4) % 4

-- the n bytes of s from a place are zero
unfoldable pub zeros : ℕ → List ℕ → ℕ → Bool
zeros n s at = all_below n (λ i. eqb (get_or s (at + i) 0) 0)

-- the padding after n bytes that end at a place; 01, number 7: once all the padding bytes are at hand, at the first of them
unfoldable pub zero_padding : ℕ → List ℕ → ℕ → ℕ → Step Unit
zero_padding n s size at =
    at_hand s size at (padding n) (
    need (zeros (padding n) s at) 7 at (
    got tt (at + padding n)))
