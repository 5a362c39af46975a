-- The header from left to right (01, Header grammar; BNF: header, magic, numrecs, dim_list, gatt_list, var_list).
use Rattle.std.specs.Prelude.{ℕ, List, length}
use Rattle.cdf.specs.Step.{Step, got, bind}
use Rattle.cdf.specs.Form.{form}
use Rattle.cdf.specs.Word.{open_count}
use Rattle.cdf.specs.Magic.{magic, version_byte}
use Rattle.cdf.specs.declared.version.Admitted.{Admitted}
use Rattle.grammar.specs.Tree.{Tree, tree}
use Rattle.grammar.specs.Dims.{dim_list}
use Rattle.grammar.specs.Attrs.{attr_list}
use Rattle.grammar.specs.Vars.{var_list}

-- BNF: header = magic numrecs dim_list gatt_list var_list, and magic = 'C' 'D' 'F' VERSION
unfoldable pub header : Admitted → List ℕ → ℕ → Step Tree
header a s size =
    bind (magic s size) (λ _ p.
    bind (version_byte a s size p) (λ v q.
    bind (open_count (form v).word_bytes s size q) (λ w r.
    bind (dim_list (form v) s size r) (λ ds u.
    bind (attr_list (form v) s size 0 u) (λ gs x.
    bind (var_list (form v) s size (length gs) x) (λ vs e.
    got (tree v w size ds gs vs) e))))))
