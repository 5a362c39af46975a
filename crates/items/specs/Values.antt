-- The values of an attribute (01, Header grammar: "Attribute: .. values, padding"; BNF: values, bytes, chars, shorts, ints, floats, doubles).
use Rattle.std.specs.Prelude.{ℕ, ◌+◌, ◌*◌, List}
use Rattle.cdf.specs.Step.{Step, at_hand}
use Rattle.cdf.specs.Padding.{zero_padding}

-- `count` elements of `width` bytes, whatever the bytes are, and the padding after them
unfoldable pub values : ℕ → ℕ → List ℕ → ℕ → ℕ → Step Unit
values count width s size at = at_hand s size at (count * width) (zero_padding (count * width) s size (at + count * width))
