-- The parts in which the code writes a header.
use Rattle.std.specs.Prelude.{ℕ, zero, suc, ◌+◌, ◌*◌, ◌≤◌, ◌<◌, List, [], ◌∷◌, ◌++◌, length, take, drop, get_or, replicate}
use Rattle.cdf.specs.Form.{form}
use Rattle.items.specs.Types.{size_of}
use Rattle.items.specs.Name.{part}
use Rattle.grammar.specs.Meaning.{dimension, attribute}
use Rattle.grammar.specs.Tables.{no_dim, no_attr, no_var}
use Rattle.grammar.specs.declared.tables.Dim.{Dim}
use Rattle.grammar.specs.declared.tables.Attr.{Attr}
use Rattle.grammar.specs.declared.tables.Var.{Var}
use Rattle.rules.specs.Rules.{spelled}
use Rattle.rules.specs.Encode.{each, name_bytes, dim_bytes, attr_bytes}
use Rattle.grammar.specs.declared.tables.Tables.{Tables}

-- how a list of n items starts: absent, or its tag and n
unfoldable pub start_bytes : ℕ → ℕ → List ℕ
start_bytes tag zero = replicate 8 0
start_bytes tag (suc n) = 0 ∷ 0 ∷ 0 ∷ tag ∷ spelled 4 (suc n)

-- a variable after its attributes
abbrev pub tail_out : ℕ → Var → List ℕ
tail_out version v = spelled 4 v.code ++ (spelled 4 v.vsize ++ spelled (form version).begin_bytes v.begin)

module _ (s : List ℕ) where
  -- the bytes of a dimension's row
  abbrev pub dim_out : Dim → List ℕ
  dim_out d = dim_bytes (form 1) (dimension s d)

  -- of an attribute's row
  abbrev pub attr_out : Attr → List ℕ
  attr_out a = attr_bytes (form 1) (attribute s a)

  -- of n attributes, from the row `first` on
  abbrev pub attrs_out : List Attr → ℕ → ℕ → List ℕ
  attrs_out xs first n = start_bytes 0x0C n ++ each attr_out (take n (drop first xs))

  -- a variable up to its attributes
  abbrev pub shape_out : Var → List ℕ
  shape_out v = name_bytes (form 1) (part s v.name v.chars) ++ (spelled 4 v.rank ++ each (spelled 4) (take v.rank v.ids))

  -- of a variable's row, whose attributes stand among the rows xs
  unfoldable pub var_out : ℕ → List Attr → Var → List ℕ
  var_out version xs v = shape_out v ++ (attrs_out xs v.first v.attrs ++ tail_out version v)

  module _ (t : Tables) where
    -- the items of the three lists, and each list with its start
    abbrev pub dims_out : List ℕ
    dims_out = each dim_out (take t.ndims t.dims)

    abbrev pub dims_part : List ℕ
    dims_part = start_bytes 0x0A t.ndims ++ dims_out

    abbrev pub globals_out : List ℕ
    globals_out = each attr_out (take t.globals t.attrs)

    abbrev pub globals_part : List ℕ
    globals_part = start_bytes 0x0C t.globals ++ globals_out

    abbrev pub vars_out : List ℕ
    vars_out = each (var_out t.version t.attrs) (take t.nvars t.vars)

    abbrev pub vars_part : List ℕ
    vars_part = start_bytes 0x0B t.nvars ++ vars_out

    -- all three
    unfoldable pub lists_out : List ℕ
    lists_out = dims_part ++ (globals_part ++ vars_part)

  -- and of a whole header: C, D, F, the version, the count word, the lists
  unfoldable pub header_out : Tables → List ℕ
  header_out t = (0x43 ∷ 0x44 ∷ 0x46 ∷ t.version ∷ []) ++ (spelled 4 t.word ++ lists_out t)

-- an attribute's name and values stand inside the text, and it has a type
pub record AttrIn (s : List ℕ) (a : Attr) : Type 0 where
  pub name : a.name + a.chars ≤ length s
  pub low : 1 ≤ a.code
  pub high : a.code ≤ 6
  pub values : a.values + a.count * size_of a.code ≤ length s

-- a variable's name stands inside the text, its ids and attributes among the rows xs
pub record VarIn (s : List ℕ) (xs : List Attr) (v : Var) : Type 0 where
  pub name : v.name + v.chars ≤ length s
  pub rank : v.rank ≤ 8
  pub span : v.first + v.attrs ≤ 128
  pub rows : (i : ℕ) → i < v.attrs → AttrIn s (get_or xs (v.first + i) no_attr)

-- every row that is written is within its counts and stands inside the text
pub record RowsIn (s : List ℕ) (t : Tables) : Type 0 where
  pub ndims : t.ndims ≤ 32
  pub dims : (i : ℕ) → i < t.ndims → (get_or t.dims i no_dim).name + (get_or t.dims i no_dim).chars ≤ length s
  pub nglobals : t.globals ≤ 128
  pub globals : (i : ℕ) → i < t.globals → AttrIn s (get_or t.attrs i no_attr)
  pub nvars : t.nvars ≤ 64
  pub vars : (i : ℕ) → i < t.nvars → VarIn s t.attrs (get_or t.vars i no_var)
