-- The bytes of a header, from what it says: the rules from right to left, every empty list as an absent one (01, Widening and narrowing: "writes every empty list as
-- eight zero bytes"; BNF: header and on).
use Rattle.std.specs.Prelude.{ℕ, List, [], ◌∷◌, ◌++◌, length, replicate}
use Rattle.cdf.specs.Form.{Form, form}
use Rattle.cdf.specs.Padding.{padding}
use Rattle.grammar.specs.Meaning.{Dimension, Attribute, Variable, Contents}
use Rattle.rules.specs.Rules.{spelled}

-- bytes, and their padding
unfoldable pub padded_out : List ℕ → List ℕ
padded_out b = b ++ replicate (padding (length b)) 0

-- the items of a list, one after the other
unfoldable pub each : {A : Type 0} → (A → List ℕ) → List A → List ℕ
each g [] = []
each g (x ∷ xs) = g x ++ each g xs

-- a list with its tag
unfoldable pub list_bytes : {A : Type 0} → Form → ℕ → (A → List ℕ) → List A → List ℕ
list_bytes f tag g [] = replicate f.absent_bytes 0
list_bytes f tag g (x ∷ xs) = 0 ∷ 0 ∷ 0 ∷ tag ∷ (spelled f.word_bytes (length (x ∷ xs)) ++ each g (x ∷ xs))

module _ (f : Form) where
  -- name = nelems namestring
  unfoldable pub name_bytes : List ℕ → List ℕ
  name_bytes n = spelled f.word_bytes (length n) ++ padded_out n

  -- dim = name dim_length
  unfoldable pub dim_bytes : Dimension → List ℕ
  dim_bytes d = name_bytes d.name ++ spelled f.word_bytes d.extent

  -- attr = name nc_type nelems [values ...]
  unfoldable pub attr_bytes : Attribute → List ℕ
  attr_bytes a = name_bytes a.name ++ (spelled 4 a.code ++ (spelled f.word_bytes a.count ++ padded_out a.values))

  -- var = name nelems [dimid ...] vatt_list nc_type vsize begin
  unfoldable pub var_bytes : Variable → List ℕ
  var_bytes v =
      name_bytes v.name
      ++ (spelled f.word_bytes (length v.ids)
      ++ (each (spelled f.word_bytes) v.ids
      ++ (list_bytes f 0x0C attr_bytes v.attributes
      ++ (spelled 4 v.code ++ (spelled f.word_bytes v.vsize ++ spelled f.begin_bytes v.begin)))))

-- header = magic numrecs dim_list gatt_list var_list
unfoldable pub encode : Contents → List ℕ
encode m =
    0x43 ∷ 0x44 ∷ 0x46 ∷ m.version
    ∷ (spelled (form m.version).word_bytes m.word
    ++ (list_bytes (form m.version) 0x0A (dim_bytes (form m.version)) m.dimensions
    ++ (list_bytes (form m.version) 0x0C (attr_bytes (form m.version)) m.globals
    ++ list_bytes (form m.version) 0x0B (var_bytes (form m.version)) m.variables)))
