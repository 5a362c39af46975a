-- What reads answer (01, Records; Answer numbers: 18, 19, 20 and 22). A window is bytes s that start at the file's position `start`.
use Rattle.std.specs.Prelude.{ℕ, ◌+◌, ◌-◌, ◌*◌, Bool, ◌&&◌, ◌||◌, List, ◌++◌, length, drop, ltb, leb, eqb}
use Rattle.bigendian.specs.Number.{be}
use Rattle.bigendian.specs.Lists.{tab, grid}
use Rattle.cdf.specs.Step.{Step, got, bind, need}
use Rattle.grammar.specs.declared.tables.Tables.{Tables}
use Rattle.found.specs.Sought.{sought_as}
use Rattle.reads.specs.Kept.{whole_bytes, kept_as}
use Rattle.found.specs.declared.variable.Spread.{Spread}

-- "Chunk of record r starts at begin + r × record size."
abbrev pub record_at : Spread → ℕ → ℕ
record_at v r = v.begin + r * v.step

-- and element e of it where e elements have passed
abbrev pub element_at : Spread → ℕ → ℕ → ℕ
element_at v r e = record_at v r + e * v.width

-- the bits of element e of record r of a variable: the number that its bytes spell. Asked only where the window holds them, so not before `start`
abbrev pub bits : Spread → List ℕ → ℕ → ℕ → ℕ → ℕ
bits v s start r e = be v.width s (element_at v r e - start)

-- 01, number 20: a window of `have` bytes holds the n bytes from a position of the file
unfoldable pub holds : ℕ → ℕ → ℕ → ℕ → Bool
holds have start at n = leb start at && leb (at + n) (start + have)

-- record r of a variable that was found, whose bits stand for the values F: 18, 20, 22. "Record reads fill from element 0."
abbrev pub record_of : {A : Type 0} → (ℕ → A) → List ℕ → ℕ → ℕ → List A → Spread → Step (List A)
record_of F s start r out v =
    need (ltb r v.records) 18 0 (
    need (holds (length s) start (record_at v r) (v.chunk * v.width)) 20 0 (
    need (leb v.chunk (length out)) 22 0 (
    got (tab (λ e. F (bits v s start r e)) v.chunk ++ drop v.chunk out) 0)))

-- a record read of the type `code`: 23, 16, 17, 18, 20, 22
unfoldable pub record_read : {A : Type 0} → (ℕ → A) → ℕ → Tables → List ℕ → ℕ → ℕ → ℕ → List A → Step (List A)
record_read F code t s start i r out = bind (sought_as code t i) (λ v _. record_of F s start r out v)

-- and of a variable that is kept
unfoldable pub record_from : {A : Type 0} → (ℕ → A) → ℕ → Step Spread → List ℕ → ℕ → ℕ → List A → Step (List A)
record_from F code found s start r out = bind (kept_as code found) (λ v _. record_of F s start r out v)

-- all records of a variable that was found: 20, 22. "put record k's values at element k × chunk of the output; what lies after the last stays"
abbrev pub whole_of : {A : Type 0} → (ℕ → A) → List ℕ → ℕ → List A → Spread → Step (List A)
whole_of F s start out v =
    need (eqb v.records 0 || holds (length s) start v.begin (whole_bytes v)) 20 0 (
    need (leb (v.records * v.chunk) (length out)) 22 0 (
    got (grid (λ k e. F (bits v s start k e)) v.chunk v.records ++ drop (v.records * v.chunk) out) 0))

-- a whole-variable read of the type `code`: 23, 16, 17, 20, 22
unfoldable pub whole_read : {A : Type 0} → (ℕ → A) → ℕ → Tables → List ℕ → ℕ → ℕ → List A → Step (List A)
whole_read F code t s start i out = bind (sought_as code t i) (λ v _. whole_of F s start out v)

-- and of a variable that is kept
unfoldable pub whole_from : {A : Type 0} → (ℕ → A) → ℕ → Step Spread → List ℕ → ℕ → List A → Step (List A)
whole_from F code found s start out = bind (kept_as code found) (λ v _. whole_of F s start out v)
