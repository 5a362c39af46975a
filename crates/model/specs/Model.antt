-- The model rules (01, Model rules), over the tables t of the bytes s.
use Rattle.std.specs.Prelude.{ℕ, ◌+◌, Bool, ◌&&◌, ◌||◌, not, List, ltb, eqb}
use Rattle.cdf.specs.Below.{all_below, any_below}
use Rattle.items.specs.Name.{same_bytes}
use Rattle.grammar.specs.Tables.{dim_at, attr_at, var_at, id_at}
use Rattle.grammar.specs.declared.tables.Var.{Var}
use Rattle.grammar.specs.declared.tables.Tables.{Tables}
use Rattle.model.specs.declared.names.Span.{Span}

-- two names of the bytes s have the same bytes
unfoldable pub same_name : List ℕ → Span → Span → Bool
same_name s a b = eqb a.chars b.chars && same_bytes s a.at s b.at a.chars

-- "No name is empty or twice in its list": the i-th is not empty, and none before it is the same
unfoldable pub is_new : List ℕ → (ℕ → Span) → ℕ → Bool
is_new s names i = ltb 0 (names i).chars && not (any_below i (λ j. same_name s (names j) (names i)))

-- no name of the first n is empty or twice
unfoldable pub distinct : List ℕ → (ℕ → Span) → ℕ → Bool
distinct s names n = all_below n (is_new s names)

-- the names of the dimensions
abbrev pub dim_names : Tables → ℕ → Span
dim_names t i = record { at = (dim_at t i).name; chars = (dim_at t i).chars }

-- the names of the variables
abbrev pub var_names : Tables → ℕ → Span
var_names t i = record { at = (var_at t i).name; chars = (var_at t i).chars }

-- the names of the attributes from the row `first` on
abbrev pub attr_names : Tables → ℕ → ℕ → Span
attr_names t first i = record { at = (attr_at t (first + i)).name; chars = (attr_at t (first + i)).chars }

-- "(dimensions, variables, each attribute list)"
unfoldable pub names_hold : List ℕ → Tables → Bool
names_hold s t =
    distinct s (dim_names t) t.ndims
    && (distinct s (var_names t) t.nvars
    && (distinct s (attr_names t 0) t.globals
    && all_below t.nvars (λ i. distinct s (attr_names t (var_at t i).first) (var_at t i).attrs)))

-- the i-th dimension is unlimited: "length 0 marks the unlimited one"
abbrev pub is_unlimited : Tables → ℕ → Bool
is_unlimited t i = eqb (dim_at t i).length 0

-- "at most one unlimited dimension": none is unlimited that has one before it
unfoldable pub one_unlimited : Tables → Bool
one_unlimited t = all_below t.ndims (λ i. not (is_unlimited t i && any_below i (is_unlimited t)))

-- "every id below the number of dimensions; the unlimited one only first in a variable"
unfoldable pub id_holds : Tables → Var → ℕ → Bool
id_holds t v k = ltb (id_at v k) t.ndims && (eqb k 0 || not (is_unlimited t (id_at v k)))

-- and so for every id of every variable
unfoldable pub ids_hold : Tables → Bool
ids_hold t = all_below t.nvars (λ i. all_below (var_at t i).rank (id_holds t (var_at t i)))

-- rule 11
unfoldable pub model_holds : List ℕ → Tables → Bool
model_holds s t = names_hold s t && (one_unlimited t && ids_hold t)
