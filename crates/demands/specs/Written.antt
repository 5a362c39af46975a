-- Demand 2's round trips: "Writing the tables that were read gives the consumed bytes back, unless a list carried its tag with count zero; reading the written bytes at the
-- same size gives equal tables."
use Rattle.std.specs.Prelude.{ℕ, ◌≤◌, ◌<◌, ◌≡◌, true, List, ◌++◌, length, take, drop}
use Rattle.cdf.specs.Magic.{both_versions}
use Rattle.cdf.specs.declared.version.Admitted.{Admitted}
use Rattle.grammar.specs.Meaning.{said}
use Rattle.grammar.specs.Tables.{max_dims, max_vars, max_attrs, max_rank, var_at}
use Rattle.grammar.specs.declared.tables.Tables.{Tables}
use Rattle.rules.specs.Rules.{Header as Derives}
use Rattle.rules.specs.Encode.{encode}
use Rattle.rules.specs.Cleared.{empty_tags, cleared}
use Rattle.order.specs.Writable.{to_write, writable}
use Rattle.header.specs.Header.{read_header}
use Rattle.demands.specs.Derived.{AreBytes}

-- the writer accepts whatever the reader gave, given room: no 23
unfoldable pub ReadIsWritable : Type 0
ReadIsWritable = (s : List ℕ) (size : ℕ) (a : Admitted) → AreBytes s → (read_header s size a).number ≡ 0 → writable s (read_header s size a).tables ≡ true

-- and writes the consumed bytes, with the tags of empty lists cleared: a derivation of them says which these are
unfoldable pub ReadIsGivenBack : Type 0
ReadIsGivenBack =
    (s : List ℕ) (size : ℕ) (a : Admitted) → AreBytes s → (read_header s size a).number ≡ 0
    → (d : Derives s (drop (read_header s size a).end s) (to_write s (read_header s size a).tables))
    × (encode (to_write s (read_header s size a).tables) ≡ take (read_header s size a).end (cleared (empty_tags (length s) d) s))

-- tables with as many rows as their type has
pub record HasRows (t : Tables) : Type 0 where
  pub dims : length t.dims ≡ max_dims
  pub attrs : length t.attrs ≡ max_attrs
  pub vars : length t.vars ≡ max_vars
  pub ids : (i : ℕ) → i < t.nvars → length (var_at t i).ids ≡ max_rank

-- what was written, with any bytes after it, is read at the same size: up to its end, and as equal tables
unfoldable pub WrittenIsRead : Type 0
WrittenIsRead =
    (s : List ℕ) (t : Tables) → HasRows t → writable s t ≡ true → (u : List ℕ) → length (encode (to_write s t) ++ u) ≤ t.size
    → ((read_header (encode (to_write s t) ++ u) t.size both_versions).number ≡ 0)
    × ((read_header (encode (to_write s t) ++ u) t.size both_versions).end ≡ length (encode (to_write s t)))
    × (said (encode (to_write s t) ++ u) (read_header (encode (to_write s t) ++ u) t.size both_versions).tables ≡ said s t)
