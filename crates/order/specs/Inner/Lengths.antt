-- The length of a header as it is written, from the rows of its tables.
use Rattle.std.specs.Prelude.{ℕ, ◌+◌, ◌*◌, ◌≤◌, ◌<◌, List, get_or}
use Rattle.cdf.specs.Form.{form}
use Rattle.cdf.specs.Padding.{padding}
use Rattle.items.specs.Types.{size_of}
use Rattle.grammar.specs.Tables.{max_dims, max_vars, max_attrs, no_attr, dim_at, var_at}
use Rattle.grammar.specs.declared.tables.Dim.{Dim}
use Rattle.grammar.specs.declared.tables.Attr.{Attr}
use Rattle.grammar.specs.declared.tables.Var.{Var}
use Rattle.grammar.specs.declared.tables.Tables.{Tables}
use Rattle.sizes.specs.Records.{total}

-- n bytes and their padding
abbrev pub padded_length : ℕ → ℕ
padded_length n = n + padding n

-- a name of n bytes: its length word, its bytes, their padding
abbrev pub name_length : ℕ → ℕ
name_length n = 4 + padded_length n

-- a dimension: its name, its length
abbrev pub dim_length : Dim → ℕ
dim_length d = name_length d.chars + 4

-- an attribute: its name, its type, the number of its values, its values
unfoldable pub attr_length : Attr → ℕ
attr_length a = name_length a.chars + 8 + padded_length (a.count * size_of a.code)

-- the attributes of the n rows from `first` on
unfoldable pub attrs_length : List Attr → ℕ → ℕ → ℕ
attrs_length rows first n = total (λ j. attr_length (get_or rows (first + j) no_attr)) n

-- a variable without its attributes: its name, its number of dimensions, its ids, the start of its list, its type, its vsize, its begin
abbrev pub var_alone : ℕ → Var → ℕ
var_alone version v = name_length v.chars + 4 + 4 * v.rank + 8 + 8 + (form version).begin_bytes

-- a variable
unfoldable pub var_length : Tables → Var → ℕ
var_length t v = var_alone t.version v + attrs_length t.attrs v.first v.attrs

-- the dimensions
unfoldable pub dims_length : Tables → ℕ
dims_length t = total (λ i. dim_length (dim_at t i)) t.ndims

-- the variables
unfoldable pub vars_length : Tables → ℕ
vars_length t = total (λ i. var_length t (var_at t i)) t.nvars

-- the magic, the count word, and the three lists, each of which starts with eight bytes
unfoldable pub header_length : Tables → ℕ
header_length t = 8 + (8 + dims_length t) + (8 + attrs_length t.attrs 0 t.globals) + (8 + vars_length t)

-- tables whose counts are within their rows
pub record CountsHold (t : Tables) : Type 0 where
  pub dims : t.ndims ≤ max_dims
  pub vars : t.nvars ≤ max_vars
  pub attrs : t.nattrs ≤ max_attrs
  pub globals : t.globals ≤ t.nattrs
  pub spans : (i : ℕ) → i < t.nvars → (var_at t i).first + (var_at t i).attrs ≤ t.nattrs
