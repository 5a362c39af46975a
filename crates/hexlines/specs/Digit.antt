-- Hexadecimal digits (01, listing program: "a character that is no hex digit of either case").
use Rattle.std.specs.Prelude.{ℕ, ◌+◌, ◌-◌, ◌*◌, Bool, cond, List, get_or, ltb}
use Rattle.cdf.specs.Below.{between, all_below}

-- what the character c is worth: `0` to `9`, `A` to `F`, `a` to `f`; 16 says that it is no digit
unfoldable pub worth : ℕ → ℕ
worth c = cond (between 48 57 c) (c - 48) (cond (between 65 70 c) (c - 55) (cond (between 97 102 c) (c - 87) 16))

-- the first n characters of s are digits
unfoldable pub are_digits : ℕ → List ℕ → Bool
are_digits n s = all_below n (λ i. ltb (worth (get_or s i 0)) 16)

-- the byte that the digits number 2 i and 2 i + 1 spell
unfoldable pub pair : List ℕ → ℕ → ℕ
pair s i = worth (get_or s (2 * i) 0) * 16 + worth (get_or s (2 * i + 1) 0)
