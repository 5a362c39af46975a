-- The first four bytes (01, Header grammar: "`CDF`; version byte"; BNF: magic, VERSION).
use Rattle.std.specs.Prelude.{ℕ, ◌+◌, Bool, true, ◌||◌, ◌&&◌, List, [], ◌∷◌, length, get_or, leb, eqb}
use Rattle.cdf.specs.Step.{Step, got, need, at_hand}
use Rattle.cdf.specs.Below.{all_below}
use Rattle.cdf.specs.declared.version.Admitted.{Admitted}

-- the bytes of s at hand from a place begin the bytes of t: none of them departs from t (01, Header grammar: "bytes at hand that begin neither form")
unfoldable pub begins : List ℕ → List ℕ → ℕ → Bool
begins t s at = all_below (length t) (λ i. leb (length s) (at + i) || eqb (get_or s (at + i) 0) (get_or t i 0))

-- C, D, F
abbrev pub cdf : List ℕ
cdf = 67 ∷ 68 ∷ 70 ∷ []

-- 01, number 3: as soon as a byte at hand departs, place 0
unfoldable pub magic : List ℕ → ℕ → Step Unit
magic s size =
    need (begins cdf s 0) 3 0 (
    at_hand s size 0 3 (
    got tt 3))

-- 01: "the admitted versions (1, 2 or both)"
abbrev pub both_versions : Admitted
both_versions = record { classic = true; offset64 = true }

-- a version that a reader admits: 1 or 2, where its set has it
unfoldable pub admits : Admitted → ℕ → Bool
admits a v = eqb v 1 && a.classic || eqb v 2 && a.offset64

-- 01, number 4: the version byte is not admitted
unfoldable pub version_byte : Admitted → List ℕ → ℕ → ℕ → Step ℕ
version_byte a s size at =
    at_hand s size at 1 (
    need (admits a (get_or s at 0)) 4 at (
    got (get_or s at 0) (at + 1)))
