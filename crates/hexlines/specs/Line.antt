-- What a line is (01, listing program: "one file a line in hexadecimal").
use Rattle.std.specs.Prelude.{ℕ, ◌/◌, ◌%◌, cond, ◌&&◌, List, length, ltb, eqb}
use Rattle.bigendian.specs.Lists.{tab}
use Rattle.hexlines.specs.Digit.{are_digits, pair}

-- too long, no hexadecimal, or the bytes of a file
pub data LineKind : Type 0 where
  long : LineKind
  hex : LineKind
  file : List ℕ → LineKind

-- 01: "A line above 16384 characters"
abbrev pub longest : ℕ
longest = 16384

-- 01: "A line above 16384 characters prints `long`; else an odd length, or a character that is no hex digit of either case,
-- prints `hex`". A character is a byte.
unfoldable pub kind_of : List ℕ → LineKind
kind_of s =
    cond (ltb longest (length s)) long
    (cond (eqb (length s % 2) 0 && are_digits (length s) s) (file (tab (pair s) (length s / 2))) hex)
