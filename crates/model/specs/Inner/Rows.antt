-- How the code finds the names and ids of rows.
use Rattle.std.specs.Prelude.{ℕ, Bool, ◌&&◌, ◌||◌, not, List, length, get_or, map, ltb, eqb}
use Rattle.std.specs.List.{list_any}
use Rattle.cdf.specs.Below.{all_below}
use Rattle.grammar.specs.Tables.{no_dim, id_at}
use Rattle.grammar.specs.declared.tables.Dim.{Dim}
use Rattle.grammar.specs.declared.tables.Var.{Var}
use Rattle.model.specs.Model.{same_name}
use Rattle.model.specs.declared.names.Span.{Span}

-- the name of the i-th row, by where a row's name stands
abbrev pub nth_span : {R : Type 0} → (R → Span) → List R → ℕ → Span
nth_span span rows i = get_or (map span rows) i (record { at = 0; chars = 0 })

-- a name is not empty and none of the rows before has it
unfoldable pub new_after : {R : Type 0} → List ℕ → (R → Span) → List R → Span → Bool
new_after s span before name = ltb 0 name.chars && not (list_any (λ r. same_name s (span r) name) before)

-- the k-th id of a variable, among the dimensions ds
abbrev pub id_among : List Dim → Var → ℕ → Bool
id_among ds v k = ltb (id_at v k) (length ds) && (eqb k 0 || not (eqb (get_or ds (id_at v k) no_dim).length 0))

-- and so for all its ids
unfoldable pub row_ids_hold : List Dim → Var → Bool
row_ids_hold ds v = all_below v.rank (id_among ds v)
