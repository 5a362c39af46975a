-- Tables within the capacities (01, Capacities), and rows that reads may follow: what holds of every header that is read;
-- and the part of it that a read tests.
use Rattle.std.specs.Prelude.{ℕ, ◌+◌, ◌≤◌, ◌<◌, get_or}
use Rattle.grammar.specs.Tables.{max_dims, max_vars, max_attrs, max_rank, no_var}
use Rattle.grammar.specs.declared.tables.Var.{Var}
use Rattle.grammar.specs.declared.tables.Tables.{Tables}

-- at most 8 dimensions, attributes among the 128, a type code of 1 to 6
pub record RowWithin (v : Var) : Type 0 where
  pub rank : v.rank ≤ max_rank
  pub span : v.first + v.attrs ≤ max_attrs
  pub low : 1 ≤ v.code
  pub high : v.code ≤ 6

-- at most 32 dimensions, 128 attributes, 64 variables
pub record Within (t : Tables) : Type 0 where
  pub dims : t.ndims ≤ max_dims
  pub attrs : t.nattrs ≤ max_attrs
  pub globals : t.globals ≤ max_attrs
  pub vars : t.nvars ≤ max_vars
  pub rows : (i : ℕ) → i < t.nvars → RowWithin (get_or t.vars i no_var)

-- the part of a row that a read tests
pub record RowShaped (v : Var) : Type 0 where
  pub rank : v.rank ≤ max_rank
  pub low : 1 ≤ v.code
  pub high : v.code ≤ 6

-- the part of the tables that a read tests before their ids
pub record Shaped (t : Tables) : Type 0 where
  pub dims : t.ndims ≤ max_dims
  pub vars : t.nvars ≤ max_vars
  pub rows : (i : ℕ) → i < t.nvars → RowShaped (get_or t.vars i no_var)
