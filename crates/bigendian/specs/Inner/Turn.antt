-- How the code reads eight bytes whose pairs it turns round by itself: in the other order.
use Rattle.std.specs.Prelude.{ℕ, ◌+◌, ◌*◌, List, get_or}

-- the four bytes of s from p, the least significant first
abbrev pub little : List ℕ → ℕ → ℕ
little s p = get_or s p 0 + get_or s (p + 1) 0 * 256 + get_or s (p + 2) 0 * 65536 + get_or s (p + 3) 0 * 16777216
