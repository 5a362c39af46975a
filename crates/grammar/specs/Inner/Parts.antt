-- The parts in which the code reads a header, an attribute and a variable.
use Rattle.std.specs.Prelude.{ℕ, ◌+◌, ◌-◌, List, [], ◌∷◌, length, set}
use Rattle.cdf.specs.Step.{Step, got, bind, items}
use Rattle.cdf.specs.Form.{Form, form}
use Rattle.cdf.specs.Word.{non_negative}
use Rattle.cdf.specs.ListStart.{list_start}
use Rattle.grammar.specs.Tree.{VarItem, Tree, tree, attrs_of}
use Rattle.grammar.specs.Tables.{max_attrs, var_rows, laid}
use Rattle.grammar.specs.Dims.{dim, dim_list}
use Rattle.grammar.specs.Attrs.{attr, attr_list}
use Rattle.grammar.specs.Vars.{var, var_list}
use Rattle.grammar.specs.declared.tables.Dim.{Dim}
use Rattle.grammar.specs.declared.tables.Attr.{Attr}
use Rattle.grammar.specs.declared.tables.Var.{Var}
use Rattle.grammar.specs.declared.tables.Tables.{Tables}

-- tables of a version, count word and size with no rows yet
unfoldable pub started : ℕ → ℕ → ℕ → Tables
started v w z = laid (tree v w z [] [] [])

-- dim_list gatt_list var_list, after a version and a count word
unfoldable pub lists : ℕ → ℕ → List ℕ → ℕ → ℕ → Step Tree
lists v w s size at =
    bind (dim_list (form v) s size at) (λ ds p.
    bind (attr_list (form v) s size 0 p) (λ gs q.
    bind (var_list (form v) s size (length gs) q) (λ vs e.
    got (tree v w size ds gs vs) e)))

-- rows with others written over them, from the row i on
unfoldable pub placed : {A : Type 0} → List A → ℕ → List A → List A
placed rows i [] = rows
placed rows i (x ∷ xs) = placed (set rows i x) (i + 1) xs

-- tables with more dimensions
unfoldable pub more_dims : Tables → List Dim → Tables
more_dims t ds = record { version = t.version; word = t.word; count = t.count; size = t.size; ndims = t.ndims + length ds; dims = placed t.dims t.ndims ds; nattrs = t.nattrs; globals = t.globals; attrs = t.attrs; nvars = t.nvars; vars = t.vars }

-- with more attributes
unfoldable pub more_attrs : Tables → List Attr → Tables
more_attrs t xs = record { version = t.version; word = t.word; count = t.count; size = t.size; ndims = t.ndims; dims = t.dims; nattrs = t.nattrs + length xs; globals = t.globals; attrs = placed t.attrs t.nattrs xs; nvars = t.nvars; vars = t.vars }

-- with more attributes, all of them global ones
unfoldable pub more_globals : Tables → List Attr → Tables
more_globals t xs = record { version = t.version; word = t.word; count = t.count; size = t.size; ndims = t.ndims; dims = t.dims; nattrs = t.nattrs + length xs; globals = t.nattrs + length xs; attrs = placed t.attrs t.nattrs xs; nvars = t.nvars; vars = t.vars }

-- with more rows of variables
unfoldable pub more_rows : Tables → List Var → Tables
more_rows t rs = record { version = t.version; word = t.word; count = t.count; size = t.size; ndims = t.ndims; dims = t.dims; nattrs = t.nattrs; globals = t.globals; attrs = t.attrs; nvars = t.nvars + length rs; vars = placed t.vars t.nvars rs }

-- with more variables and their attributes
unfoldable pub more_vars : Tables → List VarItem → Tables
more_vars t vs = more_rows (more_attrs t (attrs_of vs)) (var_rows t.nattrs vs)

-- how many attributes a list has, where `used` stand before
abbrev pub attr_count : Form → ℕ → List ℕ → ℕ → ℕ → Step ℕ
attr_count f used s size at = list_start f.absent_bytes f.word_bytes 0x0C (max_attrs - used) s size at

-- [dim ...], n of them
unfoldable pub dims : Form → ℕ → List ℕ → ℕ → ℕ → Step (List Dim)
dims f n s size at = items (λ _. dim f s size) n [] at

-- [attr ...], n of them
unfoldable pub attrs : Form → ℕ → List ℕ → ℕ → ℕ → Step (List Attr)
attrs f n s size at = items (λ _. attr f s size) n [] at

-- [dimid ...], n of them
unfoldable pub dimids : Form → ℕ → List ℕ → ℕ → ℕ → Step (List ℕ)
dimids f n s size at = items (λ _. non_negative f.word_bytes s size) n [] at

-- [var ...], n of them, where `used` attributes stand before
unfoldable pub vars : Form → ℕ → ℕ → List ℕ → ℕ → ℕ → Step (List VarItem)
vars f used n s size at = items (λ vs. var f s size (used + length (attrs_of vs))) n [] at
