-- Numbers of a variable that no place of its values wraps at.
use Rattle.std.specs.Prelude.{ℕ, ◌+◌, ◌*◌, ◌≤◌, ◌<◌, ◌^◌, ◌≡◌}
use Rattle.items.specs.Types.{size_of}
use Rattle.found.specs.declared.variable.Spread.{Spread}

-- a variable of tables that hold: its chunks end at or below 2^62, so that no position wraps, and its width is that of its type
pub record Bounded (v : Spread) : Type 0 where
  pub ends : (r : ℕ) → r < v.records → v.begin + r * v.step + v.chunk * v.width ≤ 2 ^ 62
  pub size : v.width ≡ size_of v.code
  pub low : 1 ≤ v.code
  pub high : v.code ≤ 6
