-- Demand 2, and the audit's second question: by which rule of the format is each accepted header accepted? By those of its derivation. Every accepted header has one; a
-- header that has one is read, and then only the capacities and 01's rules 11 to 15 are left to refuse it; and it says one thing alone.
use Rattle.std.specs.Prelude.{ℕ, ◌≤◌, ◌<◌, ◌≡◌, true, List, [], ◌++◌, length, get_or, drop}
use Rattle.cdf.specs.Step.{got}
use Rattle.cdf.specs.Magic.{admits}
use Rattle.cdf.specs.declared.version.Admitted.{Admitted}
use Rattle.grammar.specs.Meaning.{Contents, said}
use Rattle.grammar.specs.declared.tables.Tables.{Tables}
use Rattle.rules.specs.Rules.{Header as Derives}
use Rattle.rules.specs.Encode.{encode}
use Rattle.rules.specs.Capacity.{fits}
use Rattle.rules.specs.Range.{in_range}
use Rattle.rules.specs.Cleared.{empty_tags, cleared}
use Rattle.model.specs.Model.{model_holds}
use Rattle.sizes.specs.Records.{sizes_hold, ends_hold, max_position}
use Rattle.sizes.specs.Count.{record_count}
use Rattle.header.specs.Header.{answer, judged, read_header}

-- a list of bytes
abbrev pub AreBytes : List ℕ → Type 0
AreBytes s = (i : ℕ) → get_or s i 0 < 256

-- what 01 asks of a header beside the format: 21, an admitted version (4), the capacities (10), and rules 11 to 15, which give the record count
pub record Allowed (s : List ℕ) (size : ℕ) (a : Admitted) (t : Tables) : Type 0 where
  pub inside : length s ≤ size
  pub small : size ≤ max_position
  pub version : admits a t.version ≡ true
  pub capacities : fits (said s t).contents ≡ true
  pub model : model_holds s t ≡ true
  pub sizes : sizes_hold t ≡ true
  pub count : record_count t ≡ got t.count 0
  pub ends : ends_hold t t.count ≡ true

-- an accepted header is derived by the rules of the format: its bytes, up to the end that is answered, say what its tables say
unfoldable pub AcceptedIsDerived : Type 0
AcceptedIsDerived =
    (s : List ℕ) (size : ℕ) (a : Admitted) → AreBytes s → (read_header s size a).number ≡ 0
    → Derives s (drop (read_header s size a).end s) (said s (read_header s size a).tables).contents × Allowed s size a (read_header s size a).tables

-- and where the rules derive a header within the capacities, of an admitted version, the reader has tables that say the same, and answers by rules 11 to 15 of them
unfoldable pub DerivedIsRead : Type 0
DerivedIsRead =
    (s u : List ℕ) (m : Contents) (size : ℕ) (a : Admitted) → Derives s u m → fits m ≡ true → admits a m.version ≡ true → length s ≤ size → size ≤ max_position
    → (t : Tables) × (e : ℕ) × (u ≡ drop e s) × ((said s t).contents ≡ m) × (read_header s size a ≡ answer (judged s t e))

-- two derivations of the same bytes end at the same place and say the same
unfoldable pub OneMeaning : Type 0
OneMeaning = (s u u' : List ℕ) (m m' : Contents) → Derives s u m → Derives s u' m' → (u ≡ u') × (m ≡ m')

-- no header is a proper prefix of another
unfoldable pub NoPrefix : Type 0
NoPrefix = (s more : List ℕ) (m m' : Contents) → Derives s [] m → Derives (s ++ more) [] m' → more ≡ []

-- the bytes that `encode` makes are derived, and say what they were made of, wherever there is a form for it
unfoldable pub EncodeIsDerived : Type 0
EncodeIsDerived = (m : Contents) (u : List ℕ) → in_range m ≡ true → Derives (encode m ++ u) u m

-- and there is one for whatever bytes say
unfoldable pub DerivedIsInRange : Type 0
DerivedIsInRange = (s u : List ℕ) (m : Contents) → Derives s u m → in_range m ≡ true

-- `encode` gives the bytes of a header back, with the tags of its empty lists cleared: the same bytes where no list has its tag with count zero
unfoldable pub BytesBack : Type 0
BytesBack = (s u : List ℕ) (m : Contents) (d : Derives s u m) → encode m ++ u ≡ cleared (empty_tags (length s) d) s
