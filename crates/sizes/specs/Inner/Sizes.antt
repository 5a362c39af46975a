-- What one pass over the variables finds, from which rules 12 and 15 and the record count are decided.
use Rattle.std.specs.Prelude.{ℕ, zero, suc, ◌+◌, ◌-◌, ◌*◌, ◌/◌, ◌%◌, min, max, Bool, cond, Option, Some, None, ◌&&◌, ◌||◌, leb, eqb}
use Rattle.cdf.specs.Step.{Step, got, need}
use Rattle.cdf.specs.Below.{all_below}
use Rattle.grammar.specs.Tables.{var_at}
use Rattle.sizes.specs.Records.{is_record, padded_bytes, record_size, max_position, max_chunk}
use Rattle.sizes.specs.Count.{first_begin}
use Rattle.grammar.specs.declared.tables.Tables.{Tables}
use Rattle.sizes.specs.declared.records.Sizes.{Sizes}

-- a count that is given, or else the step x, which opens it by the file's size
abbrev pub or_given : Option ℕ → Step ℕ → Step ℕ
or_given (Some n) x = got n 0
or_given None x = x

-- the count of an open file: the records of `step` bytes from the first begin up to the size
unfoldable pub divided : ℕ → ℕ → ℕ → Step ℕ
divided size first step =
    need (leb first size) 14 0 (
    need (eqb ((size - first) % step) 0) 13 0 (
    got ((size - first) / step) 0))

-- rule 12 of the i-th variable
abbrev pub placed : Tables → ℕ → Bool
placed t i = leb (var_at t i).begin max_position && leb (padded_bytes t.dims (var_at t i)) max_chunk

-- a number, or one above the limit of rule 12 in place of any above it
abbrev pub capped : ℕ → ℕ
capped n = cond (leb n max_chunk) n (max_chunk + 1)

-- the largest of g i over the i below n of which p holds, or 0
unfoldable pub largest : (ℕ → Bool) → (ℕ → ℕ) → ℕ → ℕ
largest p g zero = 0
largest p g (suc n) = cond (p n) (max (largest p g n) (g n)) (largest p g n)

-- where the first chunk of the i-th variable ends
abbrev pub first_end : Tables → ℕ → ℕ
first_end t i = (var_at t i).begin + padded_bytes t.dims (var_at t i)

-- rule 15 for the i-th variable, if it is a fixed one
abbrev pub fixed_ends : Tables → ℕ → Bool
fixed_ends t i = is_record t.dims (var_at t i) || leb (first_end t i) max_position

-- rule 15 for the fixed variables
unfoldable pub fixed_ends_hold : Tables → Bool
fixed_ends_hold t = all_below t.nvars (fixed_ends t)

-- where the first record ends, or 0 where no variable has one
unfoldable pub record_end : Tables → ℕ
record_end t = largest (λ i. is_record t.dims (var_at t i)) (first_end t) t.nvars

-- the sizes of tables, where rule 12 holds
abbrev pub sizes_of : Tables → Sizes
sizes_of t = record { step = record_size t; first = first_begin t; fixed = fixed_ends_hold t; last = record_end t }

-- sizes with one variable more, where rule 12 holds
abbrev pub added : Sizes → Bool → ℕ → ℕ → Sizes
added z records begin padded =
    record {
      step = z.step + cond records padded 0;
      first = cond records (min z.first begin) z.first;
      fixed = z.fixed && (records || leb (begin + padded) max_position);
      last = cond records (max z.last (begin + padded)) z.last;
    }

-- whether rule 12 holds with one variable more
abbrev pub still_holds : Sizes → Bool → ℕ → ℕ → Bool
still_holds z records begin padded = leb begin max_position && (leb padded max_chunk && leb (added z records begin padded).step max_chunk)

-- rule 15 by the sizes, for n records
abbrev pub ends_in : Sizes → ℕ → Bool
ends_in z n = z.fixed && (eqb n 0 || leb (z.last + (n - 1) * z.step) max_position)
