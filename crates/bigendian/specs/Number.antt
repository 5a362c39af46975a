-- Big-endian numbers (01, Header grammar: "all words big-endian"; BNF: INT, INT64, OFFSET).
use Rattle.std.specs.Prelude.{ℕ, zero, suc, ◌+◌, ◌-◌, ◌*◌, ◌^◌, cond, List, get_or, ltb}

-- the number that the k bytes of s from p spell, the most significant first
unfoldable pub be : ℕ → List ℕ → ℕ → ℕ
be zero s p = 0
be (suc k) s p = be k s p * 256 + get_or s (p + k) 0

-- the first number of k bytes whose sign bit is set
abbrev pub half : ℕ → ℕ
half k = 2 ^ (8 * k - 1)

-- the number that k bytes spell in two's complement, as 64 bits of two's complement (01: "4 signed bytes in version 1, 8 in version 2")
unfoldable pub extended : ℕ → ℕ → ℕ
extended k v = cond (ltb v (half k)) v (v + (2 ^ 64 - 2 ^ (8 * k)))
