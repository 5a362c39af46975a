-- What the header writer answers (01, Order: "Writing: 23, 22"; Answer numbers: "lengths .. are 0 in any refusal; all outputs stay untouched").
use Rattle.std.specs.Prelude.{ℕ, ◌≡◌, Result, Ok, Err, List, ◌++◌, length, drop, leb}
use Rattle.cdf.specs.Step.{Step, got, stop, need, Leaves}
use Rattle.cdf.specs.Refusals.{answered}
use Rattle.cdf.specs.declared.refusal.Refusal.{Refusal}
use Rattle.grammar.specs.declared.tables.Tables.{Tables}
use Rattle.rules.specs.Encode.{encode}
use Rattle.order.specs.Writable.{to_write, writable}

-- the header of tables t, whose names and values stand in the text s, in an output: 23, then 22. "Here and in the writer, output after the header stays." Its place is the
-- header's length
unfoldable pub write_header : List ℕ → Tables → List ℕ → Step (List ℕ)
write_header s t out =
    need (writable s t) 23 0 (
    need (leb (length (encode (to_write s t))) (length out)) 22 0 (
    got (encode (to_write s t) ++ drop (length (encode (to_write s t))) out) (length (encode (to_write s t)))))

-- how long the header is, or 0 in a refusal
abbrev pub length_of : Step (List ℕ) → ℕ
length_of (got _ n) = n
length_of (stop _ _) = 0

-- the length that a result tells, or 0 in a refusal
abbrev pub length_told : Result ℕ Refusal → ℕ
length_told (Ok n) = n
length_told (Err _) = 0

-- the writer's contract: where y is to be answered and `out` stood in the output, r is the answer and the output is `new`
abbrev pub Writes : List ℕ → Step (List ℕ) → Result ℕ Refusal → List ℕ → Type 0
Writes out y r new = Leaves out y (answered r) new × (length_told r ≡ length_of y)
