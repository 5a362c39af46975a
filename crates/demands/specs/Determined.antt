-- Demand 1 (01, What each answer must decide: "That two conforming results coincide is proved"). Each line takes two answers that meet a contract,
-- in the contract's own words: every entry's contract has one of these forms (tests/reach looks).
use Rattle.std.specs.Prelude.{ℕ, ◌≡◌, Result, List}
use Rattle.std.specs.Borrow.{Bor}
use Rattle.cdf.specs.Step.{Step, Leaves}
use Rattle.cdf.specs.Refusals.{of_result, answered}
use Rattle.cdf.specs.declared.refusal.Refusal.{Refusal}
use Rattle.cdf.specs.declared.refusal.Stop.{Stop}
use Rattle.cdf.specs.declared.version.Admitted.{Admitted}
use Rattle.grammar.specs.declared.tables.Tables.{Tables}
use Rattle.header.specs.Header.{Conforms}
use Rattle.header.specs.declared.reader.Header.{Header as Read}
use Rattle.lookup.specs.Lookup.{IsName}
use Rattle.found.specs.declared.variable.Spread.{Spread}
use Rattle.reads.specs.declared.element.Value.{Value}
use Rattle.reads.specs.declared.bits.Bits.{Bits}
use Rattle.guest32.specs.declared.guest.Guest.{Guest}
use Rattle.model.specs.declared.names.Span.{Span}
use Rattle.crossing.specs.Words.{Loads}
use Rattle.outputs.specs.Outputs.{Gets}
use Rattle.writer.specs.Writes.{Writes}
use Rattle.convert.specs.Convert.{New, Converts}
use Rattle.convert.specs.declared.convert.Converted.{Converted as Made}

-- the header reader: a refusal with its number and place, or end and tables
unfoldable pub HeaderDetermined : Type 0
HeaderDetermined = (s : List ℕ) (size : ℕ) (a : Admitted) (h h' : Result Read Stop) → Conforms s size a h → Conforms s size a h' → h ≡ h'

-- a number and an output: the exported functions that have an output, whatever is to be read
unfoldable pub OutputsDetermined : Type 1
OutputsDetermined =
    (A : Type 0) (out : List A) (y : Step (List A)) (k k' : ℕ) (new new' : List A) → Leaves out y k new → Leaves out y k' new' → (k ≡ k') × (new ≡ new')

-- a result and an output: every record read and whole-variable read
unfoldable pub ReadsDetermined : Type 1
ReadsDetermined =
    (A : Type 0) (out : List A) (y : Step (List A)) (r r' : Result Unit Refusal) (new new' : List A)
    → Leaves out y (answered r) new
    → Leaves out y (answered r') new'
    → (r ≡ r') × (new ≡ new')

-- a result alone, of every type
unfoldable pub ResultsDetermined : Type 1
ResultsDetermined = (A : Type 0) (y : Step A) (x x' : Result A Refusal) → of_result x ≡ y → of_result x' ≡ y → x ≡ x'

-- a variable that is found, for reads of it
unfoldable pub FoundDetermined : Type 0
FoundDetermined = (y : Step Spread) (x x' : Result Spread Refusal) → of_result x ≡ y → of_result x' ≡ y → x ≡ x'

-- what a 32-bit build of netcdf3 makes of a file
unfoldable pub GuestDetermined : Type 0
GuestDetermined = (y : Step Guest) (x x' : Result Guest Refusal) → of_result x ≡ y → of_result x' ≡ y → x ≡ x'

-- a value: every element read; and a value's bits
unfoldable pub ElementsDetermined : Type 0
ElementsDetermined =
    ((y : Step Value) (x x' : Result Value Refusal) → of_result x ≡ y → of_result x' ≡ y → x ≡ x')
    × ((y : Step Bits) (x x' : Result Bits Refusal) → of_result x ≡ y → of_result x' ≡ y → x ≡ x')

-- tables that are loaded
unfoldable pub LoadsDetermined : Type 0
LoadsDetermined = (s : List ℕ) (r r' : Result Tables Refusal) → Loads s r → Loads s r' → r ≡ r'

-- the exported functions of several outputs, whose contracts (`TellsList` and those after it) are a number and this of each output
unfoldable pub PartsDetermined : Type 1
PartsDetermined = (A B : Type 0) (y : Step A) (part : A → ℕ → B) (old new new' : B) → Gets y part old new → Gets y part old new' → new ≡ new'

-- a variable's number; where a name stands; and a name, which is the same part of the buffer and not merely the same bytes
unfoldable pub LookupsDetermined : Type 0
LookupsDetermined =
    ((y : Step ℕ) (f f' : Result ℕ Refusal) → of_result f ≡ y → of_result f' ≡ y → f ≡ f')
    × ((y : Step Span) (r r' : Result Span Refusal) → of_result r ≡ y → of_result r' ≡ y → r ≡ r')
    × ((b : Bor (List ℕ)) (t : Tables) (i : ℕ) (r r' : Bor (List ℕ)) → IsName b t i r → IsName b t i r' → (r.ref_ptr.0 ≡ r'.ref_ptr.0) × (r.ref_ptr.1 ≡ r'.ref_ptr.1) × (r.now ≡ r'.now))

-- a number alone: the exported functions that have no output
unfoldable pub NumbersDetermined : Type 0
NumbersDetermined = (n k k' : ℕ) → k ≡ n → k' ≡ n → k ≡ k'

-- the writer: number, length and output
unfoldable pub WriterDetermined : Type 0
WriterDetermined = (out : List ℕ) (y : Step (List ℕ)) (r r' : Result ℕ Refusal) (new new' : List ℕ) → Writes out y r new → Writes out y r' new' → (r ≡ r') × (new ≡ new')

-- widening and narrowing: number, place, length, size and output
unfoldable pub ConversionDetermined : Type 0
ConversionDetermined = (out : List ℕ) (y : Step New) (r r' : Result Made Stop) (new new' : List ℕ) → Converts out y r new → Converts out y r' new' → (r ≡ r') × (new ≡ new')
