-- The capacities, of what a header says (01, Capacities).
use Rattle.std.specs.Prelude.{ℕ, Bool, true, ◌&&◌, List, [], ◌∷◌, ◌++◌, length, leb}
use Rattle.items.specs.Name.{longest_name}
use Rattle.grammar.specs.Tables.{max_dims, max_vars, max_attrs, max_rank}
use Rattle.grammar.specs.Meaning.{Dimension, Attribute, Variable, Contents}

-- p holds of every item
unfoldable pub all_of : {A : Type 0} → (A → Bool) → List A → Bool
all_of p [] = true
all_of p (x ∷ xs) = p x && all_of p xs

-- the attributes of variables, one after the other
unfoldable pub attributes_of : List Variable → List Attribute
attributes_of [] = []
attributes_of (v ∷ vs) = v.attributes ++ attributes_of vs

-- 256 bytes a name
abbrev pub is_short : List ℕ → Bool
is_short n = leb (length n) longest_name

-- and so for every attribute of a list
abbrev pub are_short : List Attribute → Bool
are_short = all_of (λ (a : Attribute). is_short a.name)

-- 8 dimensions a variable
unfoldable pub var_fits : Variable → Bool
var_fits v = is_short v.name && (leb (length v.ids) max_rank && are_short v.attributes)

-- 32 dimensions, 64 variables, 128 attributes over all lists
unfoldable pub fits : Contents → Bool
fits m =
    leb (length m.dimensions) max_dims
    && (leb (length m.variables) max_vars
    && (leb (length (m.globals ++ attributes_of m.variables)) max_attrs
    && (all_of (λ (d : Dimension). is_short d.name) m.dimensions
    && (are_short m.globals
    && all_of var_fits m.variables))))
