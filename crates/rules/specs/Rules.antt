-- The header's grammar as the public format gives it, rule by rule (the BNF), between bytes and what they say. `R s u x`: the bytes s are an R
-- that says x, and then the bytes u. No place, no capacity and no refusal is in it. Where document 01 departs from the BNF, the comment says so.
use Rattle.std.specs.Prelude.{ℕ, zero, suc, ◌*◌, ◌/◌, ◌%◌, ◌≤◌, ◌<◌, ◌≡◌, true, List, [], ◌∷◌, ◌++◌, length, replicate}
use Rattle.bigendian.specs.Number.{half}
use Rattle.cdf.specs.Form.{Form, form}
use Rattle.cdf.specs.Padding.{padding}
use Rattle.cdf.specs.Word.{indeterminate}
use Rattle.items.specs.Types.{size_of}
use Rattle.items.specs.Utf8.{utf8}
use Rattle.grammar.specs.Meaning.{Dimension, Attribute, Variable, Contents}

-- INT, INT64: a number in k bytes, Bigendian
unfoldable pub spelled : ℕ → ℕ → List ℕ
spelled zero n = []
spelled (suc k) n = spelled k (n / 256) ++ (n % 256 ∷ [])

-- NON_NEG = <non-negative INT>; dim_length, dimid and nelems are NON_NEG
pub data NonNeg (k : ℕ) (s u : List ℕ) (n : ℕ) : Type 0 where
  non_neg : n < half k → s ≡ spelled k n ++ u → NonNeg k s u n

-- numrecs = NON_NEG | STREAMING. 01 reads a vsize alike: the format's note on vsize has 2^32 - 1 for what is too large
pub data Numrecs (k : ℕ) (s u : List ℕ) (n : ℕ) : Type 0 where
  known : NonNeg k s u n → Numrecs k s u n
  streaming : n ≡ indeterminate k → s ≡ spelled k n ++ u → Numrecs k s u n

-- OFFSET = <non-negative INT> | <non-negative INT64>, by the version; begin = OFFSET
pub data Offset (f : Form) (s u : List ℕ) (n : ℕ) : Type 0 where
  int : f.begin_bytes ≡ 4 → NonNeg 4 s u n → Offset f s u n
  int64 : f.begin_bytes ≡ 8 → NonNeg 8 s u n → Offset f s u n

-- padding = <0, 1, 2, or 3 bytes to next 4-byte boundary>, after n bytes; in a header they are zero
pub data Padding (n : ℕ) (s u : List ℕ) : Type 0 where
  nulls : s ≡ replicate (padding n) 0 ++ u → Padding n s u

-- bytes, chars, shorts, ints, floats, doubles: so many bytes, padding
pub data Padded (b s u : List ℕ) : Type 0 where
  bytes : {t : List ℕ} → s ≡ b ++ t → Padding (length b) t u → Padded b s u

-- name = nelems namestring. 01: any UTF-8 in the place of ID1 and IDN
pub data Name (f : Form) (s u n : List ℕ) : Type 0 where
  name : {t : List ℕ} → NonNeg f.word_bytes s t (length n) → utf8 n ≡ true → Padded n t u → Name f s u n

-- nc_type = NC_BYTE | NC_CHAR | NC_SHORT | NC_INT | NC_FLOAT | NC_DOUBLE: 1, 2 and on to the version's last, in four bytes
pub data NcType (f : Form) (s u : List ℕ) (code : ℕ) : Type 0 where
  nc_type : 1 ≤ code → code ≤ f.codes → s ≡ spelled 4 code ++ u → NcType f s u code

-- [entity ...]
pub data Sequence {A : Type 0} (R : List ℕ → List ℕ → A → Type 0) : List ℕ → List ℕ → List A → Type 0 where
  none : (s : List ℕ) → Sequence R s s []
  more : {s t u : List ℕ} {x : A} {xs : List A} → R s t x → Sequence R t u xs → Sequence R s u (x ∷ xs)

-- ABSENT | TAG nelems [entity ...]
pub data Listed {A : Type 0} (f : Form) (tag : ℕ) (R : List ℕ → List ℕ → A → Type 0) (s u : List ℕ) (xs : List A) : Type 0 where
  absent : xs ≡ [] → s ≡ replicate f.absent_bytes 0 ++ u → Listed f tag R s u xs
  tagged : {t v : List ℕ} → s ≡ 0 ∷ 0 ∷ 0 ∷ tag ∷ t → NonNeg f.word_bytes t v (length xs) → Sequence R v u xs → Listed f tag R s u xs

-- dim = name dim_length
pub data Dim (f : Form) (s u : List ℕ) (d : Dimension) : Type 0 where
  dim : {t : List ℕ} → Name f s t d.name → NonNeg f.word_bytes t u d.extent → Dim f s u d

-- dim_list = ABSENT | NC_DIMENSION nelems [dim ...]
abbrev pub DimList : Form → List ℕ → List ℕ → List Dimension → Type 0
DimList f = Listed f 0x0A (Dim f)

-- attr = name nc_type nelems [values ...]
pub data Attr (f : Form) (s u : List ℕ) (a : Attribute) : Type 0 where
  attr : {p q r : List ℕ} → Name f s p a.name → NcType f p q a.code → NonNeg f.word_bytes q r a.count
      → length a.values ≡ a.count * size_of a.code → Padded a.values r u → Attr f s u a

-- att_list = ABSENT | NC_ATTRIBUTE nelems [attr ...]; gatt_list = att_list; vatt_list = att_list
abbrev pub AttList : Form → List ℕ → List ℕ → List Attribute → Type 0
AttList f = Listed f 0x0C (Attr f)

-- var = name nelems [dimid ...] vatt_list nc_type vsize begin
pub data Var (f : Form) (s u : List ℕ) (v : Variable) : Type 0 where
  var : {p q r t w x : List ℕ} → Name f s p v.name → NonNeg f.word_bytes p q (length v.ids) → Sequence (NonNeg f.word_bytes) q r v.ids
      → AttList f r t v.attributes → NcType f t w v.code → Numrecs f.word_bytes w x v.vsize → Offset f x u v.begin → Var f s u v

-- var_list = ABSENT | NC_VARIABLE nelems [var ...]
abbrev pub VarList : Form → List ℕ → List ℕ → List Variable → Type 0
VarList f = Listed f 0x0B (Var f)

-- magic = 'C' 'D' 'F' VERSION
pub data Magic (s u : List ℕ) (v : ℕ) : Type 0 where
  classic : v ≡ 1 → s ≡ 0x43 ∷ 0x44 ∷ 0x46 ∷ 0x01 ∷ u → Magic s u v
  offset64 : v ≡ 2 → s ≡ 0x43 ∷ 0x44 ∷ 0x46 ∷ 0x02 ∷ u → Magic s u v

-- header = magic numrecs dim_list gatt_list var_list
pub data Header (s u : List ℕ) (m : Contents) : Type 0 where
  header : {p q r t : List ℕ} → Magic s p m.version → Numrecs (form m.version).word_bytes p q m.word → DimList (form m.version) q r m.dimensions
      → AttList (form m.version) r t m.globals → VarList (form m.version) t u m.variables → Header s u m
