-- How the code turns four pairs of bytes round at once.
use Rattle.std.specs.Prelude.{ℕ, ◌+◌, ◌*◌, ◌/◌, ◌%◌}

-- the bytes 0, 2, 4 and 6 of a number of eight, counted from the least significant, at their places
abbrev pub evens : ℕ → ℕ
evens x = x % 256 + x / 0x1_0000 % 256 * 0x1_0000 + x / 0x1_0000_0000 % 256 * 0x1_0000_0000 + x / 0x1_0000_0000_0000 % 256 * 0x1_0000_0000_0000

-- the number in which each of the four pairs has its bytes in the other order
abbrev pub swapped : ℕ → ℕ
swapped x = evens x * 256 + evens (x / 256)
