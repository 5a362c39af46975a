-- How the code finds the unlimited dimension.
use Rattle.std.specs.Prelude.{ℕ}
use Rattle.cdf.specs.Below.{first_where}
use Rattle.grammar.specs.declared.tables.Tables.{Tables}
use Rattle.model.specs.Model.{is_unlimited}

-- the first unlimited dimension, or the number of dimensions where there is none
unfoldable pub unlimited : Tables → ℕ
unlimited t = first_where t.ndims (is_unlimited t)
