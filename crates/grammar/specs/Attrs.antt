-- Attributes (01, Header grammar: "Attribute: name, type word, element count word, values, padding"; BNF: att_list, attr).
use Rattle.std.specs.Prelude.{ℕ, ◌+◌, ◌-◌, List, []}
use Rattle.cdf.specs.Step.{Step, got, bind, items}
use Rattle.cdf.specs.Form.{Form}
use Rattle.cdf.specs.Word.{non_negative}
use Rattle.cdf.specs.ListStart.{list_start}
use Rattle.items.specs.Name.{name}
use Rattle.items.specs.Types.{data_type, size_of}
use Rattle.items.specs.Values.{values}
use Rattle.grammar.specs.Tables.{max_attrs}
use Rattle.grammar.specs.declared.tables.Attr.{Attr}

-- BNF: attr = name nc_type nelems [values ...]
unfoldable pub attr : Form → List ℕ → ℕ → ℕ → Step Attr
attr f s size at =
    bind (name f.word_bytes s size at) (λ n p.
    bind (data_type f.codes s size p) (λ code q.
    bind (non_negative f.word_bytes s size q) (λ c r.
    bind (values c (size_of code) s size r) (λ _ e.
    got (record { name = at + f.word_bytes; chars = n; code = code; count = c; values = r }) e))))

-- BNF: att_list = ABSENT | NC_ATTRIBUTE nelems [attr ...]; 0x0C is the tag. 01, Capacities: attributes count with the `used` ones before them,
-- which are never more than the capacity
unfoldable pub attr_list : Form → List ℕ → ℕ → ℕ → ℕ → Step (List Attr)
attr_list f s size used at =
    bind (list_start f.absent_bytes f.word_bytes 0x0C (max_attrs - used) s size at) (λ n p.
    items (λ _. attr f s size) n [] p)
