-- The audit's first question: the record count of an accepted file is a function of its bytes and size, in exact arithmetic; no width of a
-- machine enters. (Demand 2's division.)
use Rattle.std.specs.Prelude.{ℕ, ◌+◌, ◌*◌, ◌≤◌, ◌<◌, ◌≡◌, true, List}
use Rattle.cdf.specs.Step.{got, given_or}
use Rattle.cdf.specs.declared.version.Admitted.{Admitted}
use Rattle.grammar.specs.Tree.{Tree}
use Rattle.grammar.specs.Tables.{laid, var_at}
use Rattle.grammar.specs.Grammar.{header}
use Rattle.grammar.specs.declared.tables.Tables.{Tables}
use Rattle.sizes.specs.Records.{is_record, record_size}
use Rattle.header.specs.Header.{read_header}
use Rattle.sizes.specs.Count.{has_records, is_open, first_begin, record_count}

-- t are the tables of an accepted header
abbrev pub AcceptedTables : List ℕ → ℕ → Admitted → Tables → Type 0
AcceptedTables s size a t = ((read_header s size a).number ≡ 0) × ((read_header s size a).tables ≡ t)

-- where the reader accepts, the count it gives is `record_count` of the tables of the tree that the grammar reads from the bytes
unfoldable pub CountOfBytes : Type 0
CountOfBytes =
    (s : List ℕ) (size : ℕ) (a : Admitted) (h : Tree) (e : ℕ) → got h e ≡ header a s size → (read_header s size a).number ≡ 0
    → (read_header s size a).tables.count ≡ given_or 0 (record_count (laid h))

-- an open count is the exact quotient: so many whole records fill the bytes from the smallest record begin to the file's size
unfoldable pub OpenCount : Type 0
OpenCount =
    (s : List ℕ) (size : ℕ) (a : Admitted) (t : Tables) → AcceptedTables s size a t → is_open t ≡ true → has_records t ≡ true
    → (0 < record_size t) × (t.count * record_size t + first_begin t ≡ size)

-- and `first_begin` is that begin: at or below the begin of every record variable, and the begin of one
unfoldable pub SmallestBegin : Type 0
SmallestBegin =
    (s : List ℕ) (size : ℕ) (a : Admitted) (t : Tables) → AcceptedTables s size a t → has_records t ≡ true
    → ((i : ℕ) → i < t.nvars → is_record t.dims (var_at t i) ≡ true → first_begin t ≤ (var_at t i).begin)
    × ((i : ℕ) × (i < t.nvars) × (is_record t.dims (var_at t i) ≡ true) × (first_begin t ≡ (var_at t i).begin))
