-- What the code tests of tables before they are written, row by row.
use Rattle.std.specs.Prelude.{ℕ, ◌+◌, ◌*◌, Bool, ◌&&◌, ◌||◌, List, length, get_or, ltb, leb, eqb}
use Rattle.bigendian.specs.Number.{half}
use Rattle.cdf.specs.Below.{between, all_below}
use Rattle.cdf.specs.Step.{number_of, given_or}
use Rattle.cdf.specs.Form.{form}
use Rattle.cdf.specs.Magic.{both_versions, admits}
use Rattle.cdf.specs.Word.{indeterminate}
use Rattle.items.specs.Name.{longest_name, part}
use Rattle.items.specs.Types.{size_of}
use Rattle.items.specs.Utf8.{utf8}
use Rattle.grammar.specs.Tables.{max_dims, max_vars, max_attrs, max_rank, no_attr, dim_at, var_at}
use Rattle.grammar.specs.declared.tables.Dim.{Dim}
use Rattle.grammar.specs.declared.tables.Attr.{Attr}
use Rattle.grammar.specs.declared.tables.Var.{Var}
use Rattle.grammar.specs.declared.tables.Tables.{Tables}
use Rattle.model.specs.Model.{model_holds}
use Rattle.sizes.specs.Records.{total, sizes_hold, ends_hold, max_position}
use Rattle.sizes.specs.Count.{record_count}
use Rattle.order.specs.Writable.{dim_inside, attr_inside, var_inside}
use Rattle.order.specs.Inner.Lengths.{header_length}

-- a word that is not negative, or indeterminate
abbrev pub open_tested : ℕ → Bool
open_tested n = ltb n (half 4) || eqb n (indeterminate 4)

-- a type's code
abbrev pub code_tested : ℕ → Bool
code_tested c = between 1 6 c

module _ (s : List ℕ) where
  -- n bytes from a place, inside the text
  abbrev pub span_inside : ℕ → ℕ → Bool
  span_inside at n = leb (at + n) (length s)

  -- an attribute's row inside the text
  abbrev pub attr_row_inside : Attr → Bool
  attr_row_inside a = span_inside a.name a.chars && span_inside a.values (a.count * size_of a.code)

  -- a variable's row inside the text, its attributes among n rows
  abbrev pub var_row_inside : ℕ → Var → Bool
  var_row_inside n v = span_inside v.name v.chars && (leb v.rank max_rank && leb (v.first + v.attrs) n)

  -- a name: short, and UTF-8
  abbrev pub name_tested : ℕ → ℕ → Bool
  name_tested at n = leb n longest_name && utf8 (part s at n)

  -- a dimension
  unfoldable pub dim_tested : Dim → Bool
  dim_tested d = name_tested d.name d.chars && ltb d.length (half 4)

  -- an attribute
  unfoldable pub attr_tested : Attr → Bool
  attr_tested a = name_tested a.name a.chars && (code_tested a.code && ltb a.count (half 4))

  -- the attributes of the n rows from `first` on
  unfoldable pub attrs_tested : List Attr → ℕ → ℕ → Bool
  attrs_tested rows first n = all_below n (λ j. attr_tested (get_or rows (first + j) no_attr))

  -- a variable without its attributes
  unfoldable pub var_tested : ℕ → Var → Bool
  var_tested version v = name_tested v.name v.chars && (code_tested v.code && (open_tested v.vsize && ltb v.begin (half (form version).begin_bytes)))

  -- a variable with its attributes
  abbrev pub var_all_tested : Tables → Var → Bool
  var_all_tested t v = var_tested t.version v && attrs_tested t.attrs v.first v.attrs

  -- the dimensions
  unfoldable pub dims_tested : Tables → Bool
  dims_tested t = all_below t.ndims (λ i. dim_tested (dim_at t i))

  -- the variables
  unfoldable pub vars_tested : Tables → Bool
  vars_tested t = all_below t.nvars (λ i. var_all_tested t (var_at t i))

-- the attributes of the globals and of the first n variables
unfoldable pub attributes_upto : Tables → ℕ → ℕ
attributes_upto t n = t.globals + total (λ i. (var_at t i).attrs) n

-- 01, Capacities: "128 attributes over all lists"
abbrev pub attributes_tested : Tables → Bool
attributes_tested t = leb (attributes_upto t t.nvars) max_attrs

-- the counts within the tables, the version, the count word
unfoldable pub counts_tested : Tables → Bool
counts_tested t =
    leb t.ndims max_dims
    && (leb t.nvars max_vars
    && (leb t.nattrs max_attrs
    && (leb t.globals t.nattrs
    && (admits both_versions t.version
    && open_tested t.word))))

module _ (s : List ℕ) (t : Tables) where
  -- the rows of the dimensions
  unfoldable pub dim_rows_tested : Bool
  dim_rows_tested = all_below t.ndims (dim_inside s t) && dims_tested s t

  -- the rows of all attributes inside the text, and the global ones in range
  unfoldable pub attr_rows_tested : Bool
  attr_rows_tested = all_below t.nattrs (attr_inside s t) && attrs_tested s t.attrs 0 t.globals

  -- the rows of the variables with their attributes, and the number of attributes
  unfoldable pub var_rows_tested : Bool
  var_rows_tested = all_below t.nvars (var_inside s t) && (vars_tested s t && attributes_tested t)

-- the record count is that of the tables
unfoldable pub count_tested : Tables → Bool
count_tested t = eqb (number_of (record_count t)) 0 && eqb (given_or 0 (record_count t)) t.count

-- rules 12 to 15, and the record count
unfoldable pub sizes_tested : Tables → Bool
sizes_tested t = sizes_hold t && (count_tested t && ends_hold t t.count)

-- "size from the header's length to 2^62"
abbrev pub size_tested : Tables → Bool
size_tested t = leb (header_length t) t.size && leb t.size max_position

-- all that the code tests before the size
unfoldable pub tested : List ℕ → Tables → Bool
tested s t =
    counts_tested t
    && (dim_rows_tested s t
    && (attr_rows_tested s t
    && (var_rows_tested s t
    && (model_holds s t
    && sizes_tested t))))
