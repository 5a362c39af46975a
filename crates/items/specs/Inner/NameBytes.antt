-- The part of a name that the code reads by itself.
use Rattle.std.specs.Prelude.{ℕ, ◌+◌, List}
use Rattle.cdf.specs.Step.{Step, got, need, at_hand}
use Rattle.items.specs.Utf8.{utf8}
use Rattle.items.specs.Name.{part}

-- the n bytes of a name
unfoldable pub name_bytes : ℕ → List ℕ → ℕ → ℕ → Step Unit
name_bytes n s size at =
    at_hand s size at n (
    need (utf8 (part s at n)) 6 at (
    got tt (at + n)))
