-- Chunks and records (01, Records), as exact numbers. Asked of tables only once the ids hold (rule 11, or 23 in a read): an id that names no
-- dimension would find a zero row, which reads as unlimited.
use Rattle.std.specs.Prelude.{ℕ, zero, suc, ◌+◌, ◌-◌, ◌*◌, ◌^◌, min, Bool, cond, ◌&&◌, List, get_or, ltb, leb, eqb}
use Rattle.cdf.specs.Below.{all_below}
use Rattle.cdf.specs.Padding.{padding}
use Rattle.items.specs.Types.{size_of}
use Rattle.grammar.specs.Tables.{no_dim, var_at, id_at}
use Rattle.grammar.specs.declared.tables.Dim.{Dim}
use Rattle.grammar.specs.declared.tables.Var.{Var}
use Rattle.grammar.specs.declared.tables.Tables.{Tables}

-- g 0 × g 1 × .. × g (n - 1), the empty product being 1
unfoldable pub product : (ℕ → ℕ) → ℕ → ℕ
product g zero = 1
product g (suc n) = product g n * g n

-- g 0 + g 1 + .. + g (n - 1)
unfoldable pub total : (ℕ → ℕ) → ℕ → ℕ
total g zero = 0
total g (suc n) = total g n + g n

-- the smallest of d and of g i over the i below n of which p holds
unfoldable pub smallest : (ℕ → Bool) → (ℕ → ℕ) → ℕ → ℕ → ℕ
smallest p g d zero = d
smallest p g d (suc n) = cond (p n) (min (smallest p g d n) (g n)) (smallest p g d n)

-- the length of the k-th dimension of a variable, among the dimensions ds
abbrev pub length_at : List Dim → Var → ℕ → ℕ
length_at ds v k = (get_or ds (id_at v k) no_dim).length

-- "A record variable has the unlimited dimension first."
unfoldable pub is_record : List Dim → Var → Bool
is_record ds v = ltb 0 v.rank && eqb (length_at ds v 0) 0

-- how many dimensions of a variable are no part of its chunk: the unlimited one
abbrev pub outer : List Dim → Var → ℕ
outer ds v = cond (is_record ds v) 1 0

-- "Its chunk is the product of its other lengths (empty product 1); a fixed variable's chunk is the product of all."
unfoldable pub chunk : List Dim → Var → ℕ
chunk ds v = product (λ k. length_at ds v (outer ds v + k)) (v.rank - outer ds v)

-- "Chunk bytes are chunk times type size"
unfoldable pub chunk_bytes : List Dim → Var → ℕ
chunk_bytes ds v = chunk ds v * size_of v.code

-- "padded bytes add the padding"
unfoldable pub padded_bytes : List Dim → Var → ℕ
padded_bytes ds v = chunk_bytes ds v + padding (chunk_bytes ds v)

-- what a variable adds to a record
abbrev pub record_part : List Dim → Var → ℕ
record_part ds v = cond (is_record ds v) (padded_bytes ds v) 0

-- "Record size is the sum of the padded bytes of all record variables."
unfoldable pub record_size : Tables → ℕ
record_size t = total (λ i. record_part t.dims (var_at t i)) t.nvars

-- 01, Capacities and rules 12 and 15: 2^62
abbrev pub max_position : ℕ
max_position = 2 ^ 62

-- 01, rule 12: 2^60
abbrev pub max_chunk : ℕ
max_chunk = 2 ^ 60

-- rule 12: no begin negative or above 2^62, no padded chunk nor the record size above 2^60. A begin is kept as 64 bits of two's complement, so
-- that a negative one is above 2^62
unfoldable pub sizes_hold : Tables → Bool
sizes_hold t =
    all_below t.nvars (λ i. leb (var_at t i).begin max_position && leb (padded_bytes t.dims (var_at t i)) max_chunk)
    && leb (record_size t) max_chunk

-- where a variable ends, if there are n records: "a fixed variable .. ends at begin + padded bytes; a record variable at begin if count is 0,
-- else begin + (count − 1) × record size + padded bytes"
abbrev pub end_of : Tables → ℕ → Var → ℕ
end_of t n v =
    cond (is_record t.dims v)
    (cond (eqb n 0) v.begin (v.begin + (n - 1) * record_size t + padded_bytes t.dims v))
    (v.begin + padded_bytes t.dims v)

-- rule 15: no variable ends above 2^62
unfoldable pub ends_hold : Tables → ℕ → Bool
ends_hold t n = all_below t.nvars (λ i. leb (end_of t n (var_at t i)) max_position)
