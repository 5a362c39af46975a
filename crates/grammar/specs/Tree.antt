-- What the grammar reads: a header as the BNF nests it, a tree of lists. A name and an attribute's values are where they stand in the bytes.
use Rattle.std.specs.Prelude.{ℕ, List, [], ◌∷◌, ◌++◌}
use Rattle.grammar.specs.declared.tables.Dim.{Dim}
use Rattle.grammar.specs.declared.tables.Attr.{Attr}

-- a variable (BNF: var): its name's place and number of bytes, its dimensions' ids, its attributes, type code, vsize and begin
pub record VarItem : Type 0 where
  pub name : ℕ
  pub chars : ℕ
  pub ids : List ℕ
  pub attrs : List Attr
  pub code : ℕ
  pub vsize : ℕ
  pub begin : ℕ

-- a header (BNF: header): version, count word, and the three lists; with them the file's size
pub record Tree : Type 0 where
  pub version : ℕ
  pub word : ℕ
  pub size : ℕ
  pub dims : List Dim
  pub globals : List Attr
  pub vars : List VarItem

-- a tree by its parts
abbrev pub tree : ℕ → ℕ → ℕ → List Dim → List Attr → List VarItem → Tree
tree v w z ds gs vs = record { version = v; word = w; size = z; dims = ds; globals = gs; vars = vs }

-- the attributes of variables, one after the other
unfoldable pub attrs_of : List VarItem → List Attr
attrs_of [] = []
attrs_of (v ∷ vs) = v.attrs ++ attrs_of vs
