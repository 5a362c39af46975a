-- Numbers in decimal, and fields (01, listing program: "Fields: answer number, place, record count, header end").
use Rattle.std.specs.Prelude.{ℕ, ◌^◌, ◌&&◌, List, [], ◌∷◌, ◌++◌, ltb}
use Rattle.cdf.specs.Below.{first_where}
use Rattle.io.specs.Digits.{last_digits}

-- the digits of n in decimal, with none in front that could go: the fewest from 1 on whose power of ten is above n. Asked only of numbers of 64
-- bits, which 20 hold
unfoldable pub places : ℕ → ℕ
places n = first_where 20 (λ k. ltb 0 k && ltb n (10 ^ k))

-- a number in decimal digits
unfoldable pub decimal : ℕ → List ℕ
decimal n = last_digits 10 (places n) n

-- a field, and the character after it
unfoldable pub field : ℕ → ℕ → List ℕ
field n c = decimal n ++ (c ∷ [])

-- the four fields, with a space (32) between them and a line end (10)
unfoldable pub field_text : ℕ → ℕ → ℕ → ℕ → List ℕ
field_text number place records end = field number 32 ++ (field place 32 ++ (field records 32 ++ field end 10))
