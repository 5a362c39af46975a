-- Reads (01, Records; Answer numbers): refusals leave outputs, the three kinds of reads agree, and no read depends on a byte that it does not
-- need. `F` is the value that bits stand for, `code` the type that is asked for: the entries of reads/src and records/src have `byte` at 1, `raw` at 2,
-- `short` at 3, `int` at 4, `float` at 5, `double` at 6, and `raw` at 5 and 6 for the bits.
use Rattle.std.specs.Prelude.{ℕ, ◌+◌, ◌-◌, ◌*◌, ◌≤◌, ◌<◌, ◌≡◌, true, List, length, get_or, Some}
use Rattle.cdf.specs.Step.{Step, got, into, number_of, given_or, Leaves}
use Rattle.grammar.specs.declared.tables.Tables.{Tables}
use Rattle.found.specs.Sought.{sought, sought_as}
use Rattle.reads.specs.Reads.{record_at, element_at, bits, holds, record_read, whole_read}
use Rattle.reads.specs.Element.{value_of, element_read, element_read_as}
use Rattle.found.specs.declared.variable.Spread.{Spread}

-- a read that answers 0 (01, number 0: "accepted")
abbrev pub Accepts : {A : Type 0} → Step A → Type 0
Accepts y = number_of y ≡ 0

-- a refusal leaves its output (01, Answer numbers: "all outputs stay untouched" in any refusal): every entry that has one, whatever was to be read
unfoldable pub RefusalsLeaveOutputs : Type 1
RefusalsLeaveOutputs = (A : Type 0) (out : List A) (y : Step (List A)) (k : ℕ) (new : List A) → Leaves out y k new → (k ≡ 0 → ⊥) → new ≡ out

-- v is the i-th variable, and of the type `code`
abbrev pub IsTyped : ℕ → Tables → ℕ → Spread → Type 0
IsTyped code t i v = sought_as code t i ≡ got v 0

-- a read that accepts has such a variable (01, Order of reads: 23, 16 and 17 before all else)
unfoldable pub AcceptedIsTyped : Type 1
AcceptedIsTyped =
    (A : Type 0) (F : ℕ → A) (code : ℕ) (t : Tables) (s : List ℕ) (start i : ℕ) (out : List A)
    → ((r : ℕ) → Accepts (record_read F code t s start i r out) → (v : Spread) × IsTyped code t i v)
    × (Accepts (whole_read F code t s start i out) → (v : Spread) × IsTyped code t i v)

-- a read of unasked type answers as the read of the variable's own type
unfoldable pub ElementsAgree : Type 0
ElementsAgree =
    (code : ℕ) (t : Tables) (s : List ℕ) (start i r e : ℕ) (v : Spread) → IsTyped code t i v → element_read t s start i r e ≡ element_read_as code t s start i r e

-- where a record read accepts, each element read of its chunk does, and entry e of the output and the element are the values of the same bits
-- (01, Records: "Record reads fill from element 0.")
unfoldable pub RecordsAgree : Type 1
RecordsAgree =
    (A : Type 0) (F : ℕ → A) (code : ℕ) (t : Tables) (s : List ℕ) (start i r : ℕ) (out : List A) (v : Spread)
    → IsTyped code t i v
    → Accepts (record_read F code t s start i r out)
    → (e : ℕ) (z : A)
    → e < v.chunk
    → (into Some (element_read_as code t s start i r e) ≡ got (value_of code (bits v s start r e)) 0)
    × (get_or (given_or out (record_read F code t s start i r out)) e z ≡ F (bits v s start r e))

-- where a whole-variable read accepts, each record read with room for a chunk does, and their outputs have the same entries (01, Records:
-- "Whole-variable reads put record k's values at element k × chunk of the output")
unfoldable pub WholesAgree : Type 1
WholesAgree =
    (A : Type 0) (F : ℕ → A) (code : ℕ) (t : Tables) (s : List ℕ) (start i : ℕ) (out : List A) (v : Spread)
    → IsTyped code t i v
    → Accepts (whole_read F code t s start i out)
    → (k : ℕ) (room : List A)
    → k < v.records
    → v.chunk ≤ length room
    → Accepts (record_read F code t s start i k room)
    × ((e : ℕ) (z : A) → e < v.chunk → get_or (given_or out (whole_read F code t s start i out)) (k * v.chunk + e) z ≡ get_or (given_or room (record_read F code t s start i k room)) e z)

-- two windows, the bytes s from the file's position `start` and s' from start', hold the n bytes of the file from `at`, the same in both
pub record Share (s : List ℕ) (start : ℕ) (s' : List ℕ) (start' at n : ℕ) : Type 0 where
  pub inside : holds (length s) start at n ≡ true
  pub inside' : holds (length s') start' at n ≡ true
  pub same : (p : ℕ) → at ≤ p → p < at + n → get_or s (p - start) 0 ≡ get_or s' (p - start') 0

-- 01, Records: "A read needs the value bytes inside the window, never the padding." An element read depends on the element's own bytes alone
unfoldable pub ElementsAreLocal : Type 0
ElementsAreLocal =
    (t : Tables) (s : List ℕ) (start : ℕ) (s' : List ℕ) (start' i r e : ℕ) (v : Spread)
    → sought t i ≡ got v 0
    → Share s start s' start' (element_at v r e) v.width
    → (element_read t s start i r e ≡ element_read t s' start' i r e) × ((code : ℕ) → element_read_as code t s start i r e ≡ element_read_as code t s' start' i r e)

-- a record read depends on the value bytes of the record alone
unfoldable pub RecordsAreLocal : Type 1
RecordsAreLocal =
    (A : Type 0) (F : ℕ → A) (code : ℕ) (t : Tables) (s : List ℕ) (start : ℕ) (s' : List ℕ) (start' i r : ℕ) (out : List A) (v : Spread)
    → IsTyped code t i v
    → Share s start s' start' (record_at v r) (v.chunk * v.width)
    → record_read F code t s start i r out ≡ record_read F code t s' start' i r out

-- a whole-variable read depends on the value bytes of its records alone, not on what lies between them
unfoldable pub WholesAreLocal : Type 1
WholesAreLocal =
    (A : Type 0) (F : ℕ → A) (code : ℕ) (t : Tables) (s : List ℕ) (start : ℕ) (s' : List ℕ) (start' i : ℕ) (out : List A) (v : Spread)
    → IsTyped code t i v
    → ((k : ℕ) → k < v.records → Share s start s' start' (record_at v k) (v.chunk * v.width))
    → whole_read F code t s start i out ≡ whole_read F code t s' start' i out
