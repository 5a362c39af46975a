-- The tables of an accepted header hold what was read (01, What is taken from the crate: "Rows past a count are zero; table equality skips them").
use Rattle.std.specs.Prelude.{ℕ, ◌≡◌, List}
use Rattle.cdf.specs.Step.{got}
use Rattle.cdf.specs.declared.version.Admitted.{Admitted}
use Rattle.grammar.specs.Tree.{Tree}
use Rattle.grammar.specs.Grammar.{header}
use Rattle.grammar.specs.Meaning.{meaning, said}
use Rattle.header.specs.Header.{read_header}

-- laying the tree out in rows loses nothing of it: the tables say what the tree says
unfoldable pub NothingLost : Type 0
NothingLost =
    (s : List ℕ) (size : ℕ) (a : Admitted) (h : Tree) (e : ℕ) → got h e ≡ header a s size → (read_header s size a).number ≡ 0
    → said s (read_header s size a).tables ≡ meaning s h (read_header s size a).tables.count
