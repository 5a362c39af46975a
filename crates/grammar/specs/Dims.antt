-- Dimensions (01, Header grammar: "Dimension: name, length word"; BNF: dim_list, dim, dim_length).
use Rattle.std.specs.Prelude.{ℕ, ◌+◌, List, []}
use Rattle.cdf.specs.Step.{Step, got, bind, items}
use Rattle.cdf.specs.Form.{Form}
use Rattle.cdf.specs.Word.{non_negative}
use Rattle.cdf.specs.ListStart.{list_start}
use Rattle.items.specs.Name.{name}
use Rattle.grammar.specs.Tables.{max_dims}
use Rattle.grammar.specs.declared.tables.Dim.{Dim}

-- BNF: dim = name dim_length
unfoldable pub dim : Form → List ℕ → ℕ → ℕ → Step Dim
dim f s size at =
    bind (name f.word_bytes s size at) (λ n p.
    bind (non_negative f.word_bytes s size p) (λ l e.
    got (record { name = at + f.word_bytes; chars = n; length = l }) e))

-- BNF: dim_list = ABSENT | NC_DIMENSION nelems [dim ...]; 0x0A is the tag
unfoldable pub dim_list : Form → List ℕ → ℕ → ℕ → Step (List Dim)
dim_list f s size at =
    bind (list_start f.absent_bytes f.word_bytes 0x0A max_dims s size at) (λ n p.
    items (λ _. dim f s size) n [] p)
