-- What has a form in its version: the numbers of a header within the ranges of their words (01, Header grammar, and of the writer "words in range .. UTF-8"; BNF: NON_NEG,
-- STREAMING, OFFSET, nc_type).
use Rattle.std.specs.Prelude.{ℕ, ◌*◌, Bool, ◌&&◌, ◌||◌, List, length, ltb, eqb}
use Rattle.bigendian.specs.Number.{half}
use Rattle.cdf.specs.Form.{Form, form}
use Rattle.cdf.specs.Below.{between}
use Rattle.cdf.specs.Magic.{both_versions, admits}
use Rattle.cdf.specs.Word.{indeterminate}
use Rattle.items.specs.Types.{size_of}
use Rattle.items.specs.Utf8.{utf8}
use Rattle.grammar.specs.Meaning.{Dimension, Attribute, Variable, Contents}
use Rattle.rules.specs.Capacity.{all_of}

module _ (f : Form) where
  -- NON_NEG
  abbrev pub is_word : ℕ → Bool
  is_word n = ltb n (half f.word_bytes)

  -- NON_NEG | STREAMING
  abbrev pub is_open_word : ℕ → Bool
  is_open_word n = is_word n || eqb n (indeterminate f.word_bytes)

  -- the code of a type
  abbrev pub is_code : ℕ → Bool
  is_code c = between 1 f.codes c

  -- a name's length is a word, and it is UTF-8
  abbrev pub is_text : List ℕ → Bool
  is_text n = is_word (length n) && utf8 n

  -- a dimension
  abbrev pub dim_in_range : Dimension → Bool
  dim_in_range d = is_text d.name && is_word d.extent

  -- an attribute, which has as many bytes as its count and type say
  unfoldable pub attr_in_range : Attribute → Bool
  attr_in_range a = is_text a.name && (is_code a.code && (is_word a.count && eqb (length a.values) (a.count * size_of a.code)))

  -- a list of attributes
  abbrev pub attrs_in_range : List Attribute → Bool
  attrs_in_range xs = is_word (length xs) && all_of attr_in_range xs

  -- a variable
  unfoldable pub var_in_range : Variable → Bool
  var_in_range v =
      is_text v.name
      && (is_word (length v.ids)
      && (all_of is_word v.ids
      && (attrs_in_range v.attributes
      && (is_code v.code
      && (is_open_word v.vsize
      && ltb v.begin (half f.begin_bytes))))))

-- a header
unfoldable pub in_range : Contents → Bool
in_range m =
    admits both_versions m.version
    && (is_open_word (form m.version) m.word
    && ((is_word (form m.version) (length m.dimensions) && all_of (dim_in_range (form m.version)) m.dimensions)
    && (attrs_in_range (form m.version) m.globals
    && (is_word (form m.version) (length m.variables) && all_of (var_in_range (form m.version)) m.variables))))
