-- A variable that a caller keeps between reads: it is found once in the tables, and its numbers are tested by each read, since a caller may hand
-- in any. One that was found passes the test (`FoundOnce` in demands), so a read of it answers as one of the tables.
use Rattle.std.specs.Prelude.{ℕ, ◌+◌, ◌-◌, ◌*◌, Bool, ◌&&◌, ◌||◌, leb, eqb}
use Rattle.cdf.specs.Step.{Step, got, bind, need}
use Rattle.cdf.specs.Below.{between}
use Rattle.items.specs.Types.{size_of}
use Rattle.sizes.specs.Records.{max_position}
use Rattle.found.specs.declared.variable.Spread.{Spread}

-- the value bytes of a variable's records, from the first to the last, without the last one's padding. Asked only where there are records
abbrev pub whole_bytes : Spread → ℕ
whole_bytes v = (v.records - 1) * v.step + v.chunk * v.width

-- numbers that a variable of tables in order may have: its type, the bytes of an element, and no value ends above 2^62
unfoldable pub spread_holds : Spread → Bool
spread_holds v =
    between 1 6 v.code
    && (eqb v.width (size_of v.code)
    && (eqb v.records 0 || leb (v.begin + whole_bytes v) max_position))

-- 01, Order of reads, of a variable that is kept: what refused it before, or 23
unfoldable pub kept : Step Spread → Step Spread
kept found = bind found (λ v _. need (spread_holds v) 23 0 (got v 0))

-- and then 17, which "belongs to typed reads"
unfoldable pub kept_as : ℕ → Step Spread → Step Spread
kept_as code found = bind (kept found) (λ v _. need (eqb v.code code) 17 0 (got v 0))
