-- Element reads (01, Records: "answers one value of the variable's type, be it a whole number, float or double, bits kept").
use Rattle.std.specs.Prelude.{ℕ, List, [], ◌∷◌, length, get_or, ltb, Option, Some, None}
use Rattle.cdf.specs.Step.{Step, got, stop, bind, need}
use Rattle.decode.specs.Decoded.{byte, short, int, float, double}
use Rattle.grammar.specs.declared.tables.Tables.{Tables}
use Rattle.found.specs.Sought.{sought, sought_as}
use Rattle.reads.specs.Kept.{kept, kept_as}
use Rattle.reads.specs.Reads.{element_at, bits, holds}
use Rattle.found.specs.declared.variable.Spread.{Spread}
use Rattle.reads.specs.declared.bits.Bits.{Bits}
use Rattle.reads.specs.declared.element.Value.{Value}
use Rattle.reads.specs.declared.element.Value.TheVariants.{Byte, Char, Short, Int, Float, Double}

-- the value that bits stand for, by the code of the type from 1 on; no type has the code 0, nor one above 6. A float and a double have their bits beside them
abbrev pub value_of : ℕ → ℕ → Option Value
value_of code b =
    get_or (None ∷ Some (Byte (byte b)) ∷ Some (Char b) ∷ Some (Short (short b)) ∷ Some (Int (int b)) ∷ Some (Float (float b) b) ∷ Some (Double (double b) b) ∷ []) code None

-- a value, or the refusal 23 where a code has none. No read comes to that: 23 refuses such codes before, in tables and in what is kept
abbrev pub valued : Option Value → Step Value
valued (Some x) = got x 0
valued None = stop 23 0

-- element e of record r of a variable that was found, as f makes it of the type's code and the bits: 18, 19, 20
abbrev pub element_with : {A : Type 0} → (ℕ → ℕ → A) → List ℕ → ℕ → ℕ → ℕ → Spread → Step A
element_with f s start r e v =
    need (ltb r v.records) 18 0 (
    need (ltb e v.chunk) 19 0 (
    need (holds (length s) start (element_at v r e) v.width) 20 0 (
    got (f v.code (bits v s start r e)) 0)))

-- its value
unfoldable pub element_of : List ℕ → ℕ → ℕ → ℕ → Spread → Step Value
element_of s start r e v = bind (element_with value_of s start r e v) (λ x _. valued x)

-- a read of unasked type: 23, 16, 18, 19, 20
unfoldable pub element_read : Tables → List ℕ → ℕ → ℕ → ℕ → ℕ → Step Value
element_read t s start i r e = bind (sought t i) (λ v _. element_of s start r e v)

-- a read of the type `code`: 23, 16, 17, 18, 19, 20
unfoldable pub element_read_as : ℕ → Tables → List ℕ → ℕ → ℕ → ℕ → ℕ → Step Value
element_read_as code t s start i r e = bind (sought_as code t i) (λ v _. element_of s start r e v)

-- and both of a variable that is kept: 23, 17, 18, 19, 20
unfoldable pub element_from : Step Spread → List ℕ → ℕ → ℕ → ℕ → Step Value
element_from found s start r e = bind (kept found) (λ v _. element_of s start r e v)

unfoldable pub element_from_as : ℕ → Step Spread → List ℕ → ℕ → ℕ → ℕ → Step Value
element_from_as code found s start r e = bind (kept_as code found) (λ v _. element_of s start r e v)

-- the type's code and the bits alone: 23, 18, 19, 20
unfoldable pub bits_from : Step Spread → List ℕ → ℕ → ℕ → ℕ → Step Bits
bits_from found s start r e = bind (kept found) (λ v _. element_with (λ code b. record { code = code; bits = b }) s start r e v)
