-- Demand 3: "Where widening or narrowing accepts a file, the new header followed by the old bytes from the old header's end reads with the same names, dimensions, attributes, types
-- and record count".
use Rattle.std.specs.Prelude.{ℕ, ◌+◌, ◌*◌, ◌≤◌, ◌<◌, ◌≡◌, true, ◌⊎◌, List, [], ◌++◌, map, length, take, drop}
use Rattle.cdf.specs.Form.{form}
use Rattle.cdf.specs.Step.{got, stop, number_of}
use Rattle.cdf.specs.Magic.{both_versions}
use Rattle.grammar.specs.Tables.{var_at}
use Rattle.grammar.specs.Meaning.{Variable, Contents, said}
use Rattle.rules.specs.Rules.{Header as Derives}
use Rattle.rules.specs.Encode.{encode}
use Rattle.rules.specs.Cleared.{empty_tags, cleared}
use Rattle.sizes.specs.Records.{ends_hold, max_position}
use Rattle.order.specs.Writable.{to_write, writable}
use Rattle.header.specs.Header.{read_header}
use Rattle.header.specs.declared.reader.HeaderAnswer.{HeaderAnswer as Header}
use Rattle.reads.specs.Element.{element_read}
use Rattle.convert.specs.Convert.{moved, new_end, new_tables, begins_behind, begins_fit, convert}
use Rattle.demands.specs.Derived.{AreBytes}

-- no number of the order applies before 22 to a header that was read
pub record Convertible (version : ℕ) (s : List ℕ) (h : Header) : Type 0 where
  pub known : (version ≡ 1) ⊎ (version ≡ 2)
  pub behind : begins_behind version s h ≡ true
  pub begins : begins_fit version s h ≡ true
  pub size : (new_tables version s h).size ≤ max_position
  pub ends : ends_hold (new_tables version s h) (new_tables version s h).count ≡ true

-- then the writer takes the new tables: its own refusal, 23, never comes in widening or narrowing
unfoldable pub ConvertedIsWritable : Type 0
ConvertedIsWritable =
    (version : ℕ) (s : List ℕ) (size : ℕ) → AreBytes s → (read_header s size both_versions).number ≡ 0 → Convertible version s (read_header s size both_versions)
    → writable s (new_tables version s (read_header s size both_versions)) ≡ true

-- a variable with its begin moved, and all else as it was
abbrev pub moved_variable : (ℕ → ℕ) → Variable → Variable
moved_variable f v = record { name = v.name; ids = v.ids; attributes = v.attributes; code = v.code; vsize = v.vsize; begin = f v.begin }

-- what a header says, in another version, with its begins moved, and all else as it was
abbrev pub moved_contents : ℕ → (ℕ → ℕ) → Contents → Contents
moved_contents version f m = record { version = version; word = m.word; dimensions = m.dimensions; globals = m.globals; variables = map (moved_variable f) m.variables }

-- a file s ++ rest of which the prefix s is at hand: its header, and the file in another version
module _ (version : ℕ) (s rest : List ℕ) where
  -- the reader's answer to the prefix
  abbrev pub old_header : Header
  old_header = read_header s (length (s ++ rest)) both_versions

  -- how positions move
  abbrev pub shift : ℕ → ℕ
  shift = moved old_header.end (new_end version s old_header)

  -- "the new header followed by the old bytes from the old header's end"
  abbrev pub new_file : List ℕ
  new_file = encode (to_write s (new_tables version s old_header)) ++ drop old_header.end (s ++ rest)

  -- and the reader's answer to it, at the new size
  abbrev pub new_header : Header
  new_header = read_header new_file (shift (length (s ++ rest))) both_versions

-- it reads at the new size, up to the new header's end, and says the same in the new version, with the same record count: whatever the file is, and whatever prefix of it sufficed
unfoldable pub ConvertedIsRead : Type 0
ConvertedIsRead =
    (version : ℕ) (s rest : List ℕ) → AreBytes s → (old_header version s rest).number ≡ 0 → Convertible version s (old_header version s rest)
    → ((new_header version s rest).number ≡ 0)
    × ((new_header version s rest).end ≡ new_end version s (old_header version s rest))
    × (length (new_file version s rest) ≡ shift version s rest (length (s ++ rest)))
    × ((said (new_file version s rest) (new_header version s rest).tables).contents ≡ moved_contents version (shift version s rest) (said s (old_header version s rest).tables).contents)
    × ((new_header version s rest).tables.count ≡ (old_header version s rest).tables.count)

-- "and the same bits at every variable, record and element": an element read of the new file answers as one of the old file, values and refusals alike, the window being the whole file
unfoldable pub ConvertedBits : Type 0
ConvertedBits =
    (version : ℕ) (s rest : List ℕ) → AreBytes s → (old_header version s rest).number ≡ 0 → Convertible version s (old_header version s rest) → (i r e : ℕ)
    → element_read (new_header version s rest).tables (new_file version s rest) 0 i r e ≡ element_read (old_header version s rest).tables (s ++ rest) 0 i r e

-- 01: "it gives 0, as narrowing does, exactly when no number in its order applies": then the new header stands in the output, and what lies after it stays
unfoldable pub AcceptsExactly : Type 0
AcceptsExactly =
    (version : ℕ) (s : List ℕ) (size : ℕ) (out : List ℕ) → AreBytes s → (version ≡ 1) ⊎ (version ≡ 2)
    → (((read_header s size both_versions).number ≡ 0) → Convertible version s (read_header s size both_versions) → new_end version s (read_header s size both_versions) ≤ length out
    → convert version s size out
    ≡ got (record {
      output = encode (to_write s (new_tables version s (read_header s size both_versions))) ++ drop (new_end version s (read_header s size both_versions)) out;
      size = (new_tables version s (read_header s size both_versions)).size;
    }) (new_end version s (read_header s size both_versions)))
    × (number_of (convert version s size out) ≡ 0
    → ((read_header s size both_versions).number ≡ 0) × Convertible version s (read_header s size both_versions) × (new_end version s (read_header s size both_versions) ≤ length out))

-- "Where no earlier number applies, narrowing gives 25 exactly when a moved begin would pass 2147483647"
unfoldable pub TwentyFiveExactly : Type 0
TwentyFiveExactly =
    (s : List ℕ) (size : ℕ) (out : List ℕ) → (read_header s size both_versions).number ≡ 0 → begins_behind 1 s (read_header s size both_versions) ≡ true
    → ((i : ℕ) → i < (new_tables 1 s (read_header s size both_versions)).nvars → 2147483647 < (var_at (new_tables 1 s (read_header s size both_versions)) i).begin → convert 1 s size out ≡ stop 25 0)
    × (number_of (convert 1 s size out) ≡ 25 → (i : ℕ) × (i < (new_tables 1 s (read_header s size both_versions)).nvars) × (2147483647 < (var_at (new_tables 1 s (read_header s size both_versions)) i).begin))

-- converting twice is converting once
unfoldable pub ConvertingTwice : Type 0
ConvertingTwice =
    (v w : ℕ) (s rest : List ℕ) → AreBytes s → (old_header v s rest).number ≡ 0 → Convertible v s (old_header v s rest) → new_file w (new_file v s rest) [] ≡ new_file w s rest

-- a file that stays in its version keeps every byte but the tags of empty lists, which a derivation of its header tells; so narrowing a widened file of version 1 gives such a header back
unfoldable pub StaysInVersion : Type 0
StaysInVersion =
    (s rest : List ℕ) → AreBytes s → (version : ℕ) → (old_header version s rest).number ≡ 0 → (old_header version s rest).tables.version ≡ version → Convertible version s (old_header version s rest)
    → (d : Derives s (drop (old_header version s rest).end s) (to_write s (old_header version s rest).tables))
    × (new_file version s rest ≡ take (old_header version s rest).end (cleared (empty_tags (length s) d) s) ++ drop (old_header version s rest).end (s ++ rest))

-- 01: "Every begin moves by new header length minus old, 4 a variable, or 0 where the version stays": a begin has four bytes in version 1 and eight in version 2, and nothing else differs
unfoldable pub FourAVariable : Type 0
FourAVariable =
    (version : ℕ) (s : List ℕ) (size : ℕ) → AreBytes s → (read_header s size both_versions).number ≡ 0
    → new_end version s (read_header s size both_versions) + (read_header s size both_versions).tables.nvars * (form (read_header s size both_versions).tables.version).begin_bytes
    ≡ (read_header s size both_versions).end + (read_header s size both_versions).tables.nvars * (form version).begin_bytes
