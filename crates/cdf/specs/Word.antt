-- Words of k bytes (01, Header grammar; BNF: NON_NEG, STREAMING, nelems, OFFSET). A word of which some bytes are missing is unfinished.
use Rattle.std.specs.Prelude.{ℕ, ◌+◌, ◌-◌, ◌*◌, ◌^◌, ◌||◌, List, ltb, leb, eqb}
use Rattle.cdf.specs.Step.{Step, got, bind, need, at_hand}
use Rattle.bigendian.specs.Number.{be, half, extended}

-- the k bytes at a place, as a number
unfoldable pub word : ℕ → List ℕ → ℕ → ℕ → Step ℕ
word k s size at = at_hand s size at k (got (be k s at) (at + k))

-- 01: "Non-negative word"; any other is outside its range (5)
unfoldable pub non_negative : ℕ → List ℕ → ℕ → ℕ → Step ℕ
non_negative k s size at = bind (word k s size at) (λ v n. need (ltb v (half k)) 5 at (got v n))

-- 01: 0xFFFFFFFF, all ones in a word of k bytes, for indeterminate (BNF: STREAMING)
abbrev pub indeterminate : ℕ → ℕ
indeterminate k = 2 ^ (8 * k) - 1

-- 01: "Open-count word": non-negative, or indeterminate; any other is outside its range (5)
unfoldable pub open_count : ℕ → List ℕ → ℕ → ℕ → Step ℕ
open_count k s size at = bind (word k s size at) (λ v n. need (ltb v (half k) || eqb v (indeterminate k)) 5 at (got v n))

-- 01, Capacities: a count or length above its capacity is refused where its word is read (10)
unfoldable pub nelems : ℕ → ℕ → List ℕ → ℕ → ℕ → Step ℕ
nelems capacity k s size at = bind (non_negative k s size at) (λ v n. need (leb v capacity) 10 at (got v n))

-- 01: "begin (4 signed bytes in version 1, 8 in version 2)", as 64 bits of two's complement
unfoldable pub signed : ℕ → List ℕ → ℕ → ℕ → Step ℕ
signed k s size at = bind (word k s size at) (λ v n. got (extended k v) n)
