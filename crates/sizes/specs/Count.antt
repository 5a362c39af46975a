-- The record count (01, Records: "Record count"). A count has no place of its own.
use Rattle.std.specs.Prelude.{ℕ, ◌-◌, ◌/◌, ◌%◌, Bool, leb, eqb}
use Rattle.cdf.specs.Step.{Step, got, unless, need}
use Rattle.cdf.specs.Below.{any_below}
use Rattle.cdf.specs.Form.{form}
use Rattle.cdf.specs.Word.{indeterminate}
use Rattle.grammar.specs.Tables.{var_at}
use Rattle.model.specs.Model.{is_unlimited}
use Rattle.sizes.specs.Records.{is_record, record_size, smallest, max_position}
use Rattle.grammar.specs.declared.tables.Tables.{Tables}

-- an unlimited dimension exists
unfoldable pub has_unlimited : Tables → Bool
has_unlimited t = any_below t.ndims (is_unlimited t)

-- a record variable exists
unfoldable pub has_records : Tables → Bool
has_records t = any_below t.nvars (λ i. is_record t.dims (var_at t i))

-- the count word is indeterminate
abbrev pub is_open : Tables → Bool
is_open t = eqb t.word (indeterminate (form t.version).word_bytes)

-- "smallest record begin". Asked only where a record variable exists, and where rule 12 has bounded every begin by 2^62
unfoldable pub first_begin : Tables → ℕ
first_begin t = smallest (λ i. is_record t.dims (var_at t i)) (λ i. (var_at t i).begin) max_position t.nvars

-- "the word; if indeterminate, 0 where no unlimited dimension or no record variable exists, else" the count that is opened by the file's size. "No unlimited
-- dimension: count 0."
abbrev pub count_or : Tables → Step ℕ → Step ℕ
count_or t opened =
    unless (has_unlimited t) (got 0 0) (
    unless (is_open t) (got t.word 0) (
    unless (has_records t) (got 0 0)
    opened))

-- "(size − smallest record begin) divided by record size". 14 where the size lies below that begin, 13 where the division leaves a rest. With a
-- record variable the record size is above 0
unfoldable pub record_count : Tables → Step ℕ
record_count t =
    count_or t (
    need (leb (first_begin t) t.size) 14 0 (
    need (eqb ((t.size - first_begin t) % record_size t) 0) 13 0 (
    got ((t.size - first_begin t) / record_size t) 0)))
