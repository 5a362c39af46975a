-- What a header says, without positions and without rows past a count (01: "Rows past a count are zero; table equality skips them and takes
-- names and attributes by their bytes").
use Rattle.std.specs.Prelude.{ℕ, ◌*◌, List, map, take, drop}
use Rattle.items.specs.Name.{part}
use Rattle.items.specs.Types.{size_of}
use Rattle.grammar.specs.Tree.{VarItem, Tree, tree}
use Rattle.grammar.specs.declared.tables.Dim.{Dim}
use Rattle.grammar.specs.declared.tables.Attr.{Attr}
use Rattle.grammar.specs.declared.tables.Var.{Var}
use Rattle.grammar.specs.declared.tables.Tables.{Tables}

-- a dimension: its name as bytes, and its length
pub record Dimension : Type 0 where
  pub name : List ℕ
  pub extent : ℕ

-- an attribute's values as their bytes
pub record Attribute : Type 0 where
  pub name : List ℕ
  pub code : ℕ
  pub count : ℕ
  pub values : List ℕ

-- a variable with its ids, its attributes, and vsize and begin as read
pub record Variable : Type 0 where
  pub name : List ℕ
  pub ids : List ℕ
  pub attributes : List Attribute
  pub code : ℕ
  pub vsize : ℕ
  pub begin : ℕ

-- what the bytes of a header say (BNF: header)
pub record Contents : Type 0 where
  pub version : ℕ
  pub word : ℕ
  pub dimensions : List Dimension
  pub globals : List Attribute
  pub variables : List Variable

-- with the record count and the file's size
pub record Meaning : Type 0 where
  pub contents : Contents
  pub count : ℕ
  pub size : ℕ

module _ (s : List ℕ) where
  -- a dimension by the bytes s
  abbrev pub dimension : Dim → Dimension
  dimension d = record { name = part s d.name d.chars; extent = d.length }

  -- an attribute by the bytes s
  abbrev pub attribute : Attr → Attribute
  attribute a =
      record {
        name = part s a.name a.chars;
        code = a.code;
        count = a.count;
        values = part s a.values (a.count * size_of a.code);
      }

  -- a variable by the bytes s
  abbrev pub variable : VarItem → Variable
  variable v =
      record {
        name = part s v.name v.chars;
        ids = v.ids;
        attributes = map attribute v.attrs;
        code = v.code;
        vsize = v.vsize;
        begin = v.begin;
      }

  -- what a tree says of the bytes s
  unfoldable pub contents : Tree → Contents
  contents h =
      record {
        version = h.version;
        word = h.word;
        dimensions = map dimension h.dims;
        globals = map attribute h.globals;
        variables = map variable h.vars;
      }

  -- 01, What is taken from the crate: version, count word, count and file size, and the three lists
  abbrev pub meaning : Tree → ℕ → Meaning
  meaning h n = record { contents = contents h; count = n; size = h.size }

-- the variable of a row, whose attributes stand among the rows xs
abbrev pub item_of : List Attr → Var → VarItem
item_of xs v =
    record {
      name = v.name;
      chars = v.chars;
      ids = take v.rank v.ids;
      attrs = take v.attrs (drop v.first xs);
      code = v.code;
      vsize = v.vsize;
      begin = v.begin;
    }

-- the tree that tables hold in the rows below their counts
unfoldable pub held : Tables → Tree
held t =
    tree t.version t.word t.size (take t.ndims t.dims) (take t.globals t.attrs) (map (item_of t.attrs) (take t.nvars t.vars))

-- what tables of the bytes s say: 01's equality of tables is that they say the same
abbrev pub said : List ℕ → Tables → Meaning
said s t = meaning s (held t) t.count
