-- Tables as numbers: how tables cross to another language. One number a word, every row, those past a count too.
use Rattle.std.specs.Prelude.{ℕ, zero, suc, ◌+◌, ◌*◌, ◌^◌, ◌<◌, Bool, true, ◌&&◌, ◌≡◌, Result, List, [], ◌∷◌, ◌++◌, length, get_or, drop, leb, ltb}
use Rattle.bigendian.specs.Lists.{tab}
use Rattle.cdf.specs.Step.{Step, got, need}
use Rattle.cdf.specs.Refusals.{of_result}
use Rattle.cdf.specs.declared.refusal.Refusal.{Refusal}
use Rattle.cdf.specs.Below.{all_below}
use Rattle.grammar.specs.Tables.{max_dims, max_attrs, max_vars, max_rank, no_dim, no_attr, no_var, dim_at, attr_at, var_at, id_at}
use Rattle.grammar.specs.declared.tables.Dim.{Dim}
use Rattle.grammar.specs.declared.tables.Attr.{Attr}
use Rattle.grammar.specs.declared.tables.Var.{Var}
use Rattle.grammar.specs.declared.tables.Tables.{Tables}

-- the first eight: version, count word, record count, file size; how many dimensions, attributes, global attributes, variables
unfoldable pub head_words : Tables → List ℕ
head_words t = t.version ∷ t.word ∷ t.count ∷ t.size ∷ t.ndims ∷ t.nattrs ∷ t.globals ∷ t.nvars ∷ []

-- a dimension: where its name stands and how many bytes it has, the length
unfoldable pub dim_words : Dim → List ℕ
dim_words d = d.name ∷ d.chars ∷ d.length ∷ []

-- an attribute: its name, type code, element count, where its values stand
unfoldable pub attr_words : Attr → List ℕ
attr_words a = a.name ∷ a.chars ∷ a.code ∷ a.count ∷ a.values ∷ []

-- a variable: its name, how many dimensions, its first attribute, how many, type code, vsize, begin; then the eight ids
unfoldable pub var_words : Var → List ℕ
var_words v = v.name ∷ v.chars ∷ v.rank ∷ v.first ∷ v.attrs ∷ v.code ∷ v.vsize ∷ v.begin ∷ tab (id_at v) max_rank

-- f 0, then f 1, .. then f (n - 1)
unfoldable pub joined : (ℕ → List ℕ) → ℕ → List ℕ
joined f zero = []
joined f (suc n) = joined f n ++ f n

-- the dimensions: 32 times 3 numbers
abbrev pub dims_words : List Dim → List ℕ
dims_words rows = joined (λ i. dim_words (get_or rows i no_dim)) max_dims

-- the attributes: 128 times 5
abbrev pub attrs_words : List Attr → List ℕ
attrs_words rows = joined (λ i. attr_words (get_or rows i no_attr)) max_attrs

-- the variables: 64 times 16
abbrev pub vars_words : List Var → List ℕ
vars_words rows = joined (λ i. var_words (get_or rows i no_var)) max_vars

-- the numbers of tables
unfoldable pub table_words : Tables → List ℕ
table_words t = head_words t ++ (dims_words t.dims ++ (attrs_words t.attrs ++ vars_words t.vars))

-- and how many they are
abbrev pub table_length : ℕ
table_length = 1768

-- tables put down in an output: 22 where it is too short; what lies after them stays
unfoldable pub stored : Tables → List ℕ → Step (List ℕ)
stored t out = need (leb table_length (length out)) 22 0 (got (table_words t ++ drop table_length out) 0)

-- the word at a place
abbrev pub word_at : List ℕ → ℕ → ℕ
word_at s at = get_or s at 0

-- the dimension whose words start at a place
unfoldable pub dim_of : List ℕ → ℕ → Dim
dim_of s at = record { name = word_at s at; chars = word_at s (at + 1); length = word_at s (at + 2) }

-- the attribute
unfoldable pub attr_of : List ℕ → ℕ → Attr
attr_of s at =
    record {
      name = word_at s at;
      chars = word_at s (at + 1);
      code = word_at s (at + 2);
      count = word_at s (at + 3);
      values = word_at s (at + 4);
    }

-- the variable
unfoldable pub var_of : List ℕ → ℕ → Var
var_of s at =
    record {
      name = word_at s at;
      chars = word_at s (at + 1);
      ids = tab (λ k. word_at s (at + 8 + k)) max_rank;
      rank = word_at s (at + 2);
      first = word_at s (at + 3);
      attrs = word_at s (at + 4);
      code = word_at s (at + 5);
      vsize = word_at s (at + 6);
      begin = word_at s (at + 7);
    }

-- the dimensions, from 8 on
abbrev pub dims_in : List ℕ → List Dim
dims_in s = tab (λ i. dim_of s (8 + 3 * i)) max_dims

-- the attributes, from 104 on
abbrev pub attrs_in : List ℕ → List Attr
attrs_in s = tab (λ i. attr_of s (104 + 5 * i)) max_attrs

-- the variables, from 744 on
abbrev pub vars_in : List ℕ → List Var
vars_in s = tab (λ i. var_of s (744 + 16 * i)) max_vars

-- the tables that words say
unfoldable pub tables_of : List ℕ → Tables
tables_of s =
    record {
      version = word_at s 0;
      word = word_at s 1;
      count = word_at s 2;
      size = word_at s 3;
      ndims = word_at s 4;
      dims = dims_in s;
      nattrs = word_at s 5;
      globals = word_at s 6;
      attrs = attrs_in s;
      nvars = word_at s 7;
      vars = vars_in s;
    }

-- the numbers of a dimension fit its fields: those that are narrower than a word
unfoldable pub dim_in_fields : Dim → Bool
dim_in_fields d = ltb d.chars (2 ^ 32) && ltb d.length (2 ^ 32)

-- those of an attribute
unfoldable pub attr_in_fields : Attr → Bool
attr_in_fields a = ltb a.chars (2 ^ 16) && (ltb a.code (2 ^ 16) && ltb a.count (2 ^ 32))

-- those of a variable
unfoldable pub var_in_fields : Var → Bool
var_in_fields v =
    ltb v.chars (2 ^ 32)
    && (ltb v.rank (2 ^ 8)
    && (ltb v.first (2 ^ 8)
    && (ltb v.attrs (2 ^ 8)
    && (ltb v.code (2 ^ 8)
    && all_below max_rank (λ k. ltb (id_at v k) (2 ^ 32))))))

-- the version, and the numbers of every row
unfoldable pub tables_in_fields : Tables → Bool
tables_in_fields t =
    ltb t.version (2 ^ 8)
    && (all_below max_dims (λ i. dim_in_fields (dim_at t i))
    && (all_below max_attrs (λ i. attr_in_fields (attr_at t i))
    && all_below max_vars (λ i. var_in_fields (var_at t i))))

-- what the type of tables says of every one that the code has: as many rows and ids as there is room for, and numbers that fit their fields
pub record Full (t : Tables) : Type 0 where
  pub dims : length t.dims ≡ max_dims
  pub attrs : length t.attrs ≡ max_attrs
  pub vars : length t.vars ≡ max_vars
  pub ids : (i : ℕ) → i < max_vars → length (var_at t i).ids ≡ max_rank
  pub fits : tables_in_fields t ≡ true

-- words taken up as tables: 23, "tables out of order", where they are too few or a number does not fit its field
unfoldable pub loaded : List ℕ → Step Tables
loaded s = need (leb table_length (length s) && tables_in_fields (tables_of s)) 23 0 (got (tables_of s) 0)

-- the contract of loading: the tables, or the refusal
abbrev pub Loads : List ℕ → Result Tables Refusal → Type 0
Loads s r = of_result r ≡ loaded s
