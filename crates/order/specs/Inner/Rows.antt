-- Tables with as many rows as their type has.
use Rattle.std.specs.Prelude.{ℕ, ◌<◌, ◌≡◌, length}
use Rattle.grammar.specs.Tables.{var_at}
use Rattle.grammar.specs.declared.tables.Tables.{Tables}

-- tables with as many rows, and ids in each row that is in use, as their type has
pub record FullRows (t : Tables) : Type 0 where
  pub dims : length t.dims ≡ 32
  pub attrs : length t.attrs ≡ 128
  pub vars : length t.vars ≡ 64
  pub ids : (i : ℕ) → i < t.nvars → i < 64 → length (var_at t i).ids ≡ 8
