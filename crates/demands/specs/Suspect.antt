-- The audit's last question: which stored results are to be computed again. What a 32-bit build of netcdf3 0.6.1 makes of a file (guest32) is set beside what
-- the file holds.
use Rattle.std.specs.Prelude.{ℕ, ◌-◌, ◌*◌, ◌<◌, ◌≡◌, List, leb}
use Rattle.cdf.specs.Step.{got}
use Rattle.cdf.specs.declared.version.Admitted.{Admitted}
use Rattle.grammar.specs.Tables.{var_at}
use Rattle.grammar.specs.declared.tables.Tables.{Tables}
use Rattle.sizes.specs.Records.{chunk, record_size}
use Rattle.guest32.specs.Guest.{word32, elsewhere, cut_short, guest32}
use Rattle.guest32.specs.declared.guest.Guest.{Guest}
use Rattle.demands.specs.RecordCount.{AcceptedTables}

-- nothing is suspect: no error, every record found, each in its place, no variable cut short
abbrev pub unsuspected : Tables → Guest
unsuspected t = record { number = 0; records = t.count; foreign = t.count; cut = t.nvars }

-- the file's size, the begins, the last record's offset, the record size and the elements of a record stay below 2^32. The record size is named
-- beside the offset, for a file of no records has none: a record size of 2^32 is then 0 to such a build, which refuses the file
pub record Below32 (t : Tables) : Type 0 where
  pub size : t.size < word32
  pub begins : (i : ℕ) → i < t.nvars → (var_at t i).begin < word32
  pub step : record_size t < word32
  pub last : (t.count - 1) * record_size t < word32
  pub chunks : (i : ℕ) → i < t.nvars → chunk t.dims (var_at t i) < word32

-- of an accepted file of which all this stays below 2^32 nothing is suspect: both builds agree
unfoldable pub BothBuildsAgree : Type 0
BothBuildsAgree =
    (s : List ℕ) (size : ℕ) (a : Admitted) (t : Tables) → AcceptedTables s size a t → Below32 t → guest32 t ≡ got (unsuspected t) 0

-- a record is taken from elsewhere exactly where its offset reaches 2^32, and a variable is cut short exactly where a record of it has 2^32
-- elements or more
unfoldable pub SuspectExactly : Type 0
SuspectExactly =
    (t : Tables)
    → ((r : ℕ) → elsewhere t r ≡ leb word32 (r * record_size t))
    × ((i : ℕ) → cut_short t.dims (var_at t i) ≡ leb word32 (chunk t.dims (var_at t i)))
