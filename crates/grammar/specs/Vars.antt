-- Variables (01, Header grammar: "Variable: name, number of dimensions, ids, attributes, type, vsize, begin"; BNF: var_list, var, dimid, vatt_list).
use Rattle.std.specs.Prelude.{ℕ, ◌+◌, List, [], length}
use Rattle.cdf.specs.Step.{Step, got, bind, items}
use Rattle.cdf.specs.Form.{Form}
use Rattle.cdf.specs.Word.{non_negative, open_count, nelems, signed}
use Rattle.cdf.specs.ListStart.{list_start}
use Rattle.items.specs.Name.{name}
use Rattle.items.specs.Types.{data_type}
use Rattle.grammar.specs.Tree.{VarItem, attrs_of}
use Rattle.grammar.specs.Tables.{max_vars, max_rank}
use Rattle.grammar.specs.Attrs.{attr_list}

-- BNF: var = name nelems [dimid ...] vatt_list nc_type vsize begin, where `used` attributes stand before; dimid = NON_NEG
unfoldable pub var : Form → List ℕ → ℕ → ℕ → ℕ → Step VarItem
var f s size used at =
    bind (name f.word_bytes s size at) (λ n p.
    bind (nelems max_rank f.word_bytes s size p) (λ k q.
    bind (items (λ _. non_negative f.word_bytes s size) k [] q) (λ is r.
    bind (attr_list f s size used r) (λ xs u.
    bind (data_type f.codes s size u) (λ code v.
    bind (open_count f.word_bytes s size v) (λ z w.
    bind (signed f.begin_bytes s size w) (λ b e.
    got (record { name = at + f.word_bytes; chars = n; ids = is; attrs = xs; code = code; vsize = z; begin = b }) e)))))))

-- BNF: var_list = ABSENT | NC_VARIABLE nelems [var ...]; 0x0B is the tag. `used` attributes stand before, and those of the variables before
unfoldable pub var_list : Form → List ℕ → ℕ → ℕ → ℕ → Step (List VarItem)
var_list f s size used at =
    bind (list_start f.absent_bytes f.word_bytes 0x0B max_vars s size at) (λ n p.
    items (λ vs. var f s size (used + length (attrs_of vs))) n [] p)
