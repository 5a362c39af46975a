-- The tables that a header is laid out in (01, What is taken from the crate; Capacities): a row for each item of its lists. "Rows past a count
-- are zero."
use Rattle.std.specs.Prelude.{ℕ, zero, suc, ◌+◌, List, [], ◌∷◌, ◌++◌, length, get_or}
use Rattle.grammar.specs.Tree.{VarItem, Tree, tree, attrs_of}
use Rattle.grammar.specs.declared.tables.Dim.{Dim}
use Rattle.grammar.specs.declared.tables.Attr.{Attr}
use Rattle.grammar.specs.declared.tables.Var.{Var}
use Rattle.grammar.specs.declared.tables.Tables.{Tables}

-- 01, Capacities: 32 dimensions
abbrev pub max_dims : ℕ
max_dims = 32

-- 64 variables
abbrev pub max_vars : ℕ
max_vars = 64

-- 128 attributes over all lists
abbrev pub max_attrs : ℕ
max_attrs = 128

-- 8 dimensions a variable
abbrev pub max_rank : ℕ
max_rank = 8

-- n rows: those of a list, and z in the rest
unfoldable pub padded : {A : Type 0} → ℕ → A → List A → List A
padded zero z xs = []
padded (suc n) z [] = z ∷ padded n z []
padded (suc n) z (x ∷ xs) = x ∷ padded n z xs

-- a row of a dimension that is zero
abbrev pub no_dim : Dim
no_dim = record { name = 0; chars = 0; length = 0 }

-- a row of an attribute that is zero
abbrev pub no_attr : Attr
no_attr = record { name = 0; chars = 0; code = 0; count = 0; values = 0 }

-- the row of a variable whose attributes start at the row `first`
abbrev pub var_row : ℕ → VarItem → Var
var_row first v =
    record {
      name = v.name;
      chars = v.chars;
      rank = length v.ids;
      ids = padded max_rank 0 v.ids;
      first = first;
      attrs = length v.attrs;
      code = v.code;
      vsize = v.vsize;
      begin = v.begin;
    }

-- a row of a variable that is zero
abbrev pub zero_var : Var
zero_var = var_row 0 (record { name = 0; chars = 0; ids = []; attrs = []; code = 0; vsize = 0; begin = 0 })

-- the rows of variables whose attributes stand one after the other from the row `first` on
unfoldable pub var_rows : ℕ → List VarItem → List Var
var_rows first [] = []
var_rows first (v ∷ vs) = var_row first v ∷ var_rows (first + length v.attrs) vs

-- the tables of a tree, with no record count yet: the global attributes stand before those of the variables
unfoldable pub laid : Tree → Tables
laid h =
    record {
      version = h.version;
      word = h.word;
      count = 0;
      size = h.size;
      ndims = length h.dims;
      dims = padded max_dims no_dim h.dims;
      nattrs = length (h.globals ++ attrs_of h.vars);
      globals = length h.globals;
      attrs = padded max_attrs no_attr (h.globals ++ attrs_of h.vars);
      nvars = length h.vars;
      vars = padded max_vars zero_var (var_rows (length h.globals) h.vars);
    }

-- the tables with their record count
abbrev pub with_count : Tables → ℕ → Tables
with_count t n = record { version = t.version; word = t.word; count = n; size = t.size; ndims = t.ndims; dims = t.dims; nattrs = t.nattrs; globals = t.globals; attrs = t.attrs; nvars = t.nvars; vars = t.vars }

-- 01, Answer numbers: "tables of version 1 with all else 0"
unfoldable pub blank : Tables
blank = laid (tree 1 0 0 [] [] [])

-- the i-th dimension. Of this and the next three: asked only below the numbers of rows and of ids, which rules 11 and 23 have tested; past the
-- rows themselves the value is the language's own for none
abbrev pub dim_at : Tables → ℕ → Dim
dim_at t i = get_or t.dims i no_dim

-- the i-th attribute row
abbrev pub attr_at : Tables → ℕ → Attr
attr_at t i = get_or t.attrs i no_attr

-- what `var_at` gives past the rows
abbrev pub no_var : Var
no_var = record { name = 0; chars = 0; rank = 0; ids = []; first = 0; attrs = 0; code = 0; vsize = 0; begin = 0 }

-- the i-th variable
abbrev pub var_at : Tables → ℕ → Var
var_at t i = get_or t.vars i no_var

-- the k-th dimension id of a variable
abbrev pub id_at : Var → ℕ → ℕ
id_at v k = get_or v.ids k 0
