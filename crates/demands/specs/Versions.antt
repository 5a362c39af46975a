-- Demand 3, last sentence: a reader that admits one version, given a size that 01 allows, refuses a prefix that starts with CDF by version
-- exactly when its fourth byte is another; otherwise it answers as the full reader.
use Rattle.std.specs.Prelude.{ℕ, ◌≤◌, ◌<◌, ◌≡◌, ◌⊎◌, List, length, get_or, take, eqb}
use Rattle.cdf.specs.Magic.{cdf, both_versions}
use Rattle.cdf.specs.declared.version.Admitted.{Admitted}
use Rattle.header.specs.Header.{read_header, refusal}
use Rattle.sizes.specs.Records.{max_position}

-- a reader that admits version v alone
abbrev pub only : ℕ → Admitted
only v = record { classic = eqb v 1; offset64 = eqb v 2 }

-- the prefix starts with CDF, has a fourth byte, and that is not v
pub record Another (s : List ℕ) (v : ℕ) : Type 0 where
  pub starts : take 3 s ≡ cdf
  pub four : 3 < length s
  pub other : get_or s 3 0 ≡ v → ⊥

-- demand 3's last sentence: by 4 at 3 exactly when the fourth byte is another, else as the full reader
unfoldable pub OneVersion : Type 0
OneVersion =
    (v : ℕ) → (v ≡ 1) ⊎ (v ≡ 2) → (s : List ℕ) (size : ℕ) → length s ≤ size → size ≤ max_position
    → (Another s v → read_header s size (only v) ≡ refusal 4 3)
    × ((read_header s size (only v)).number ≡ 4 → Another s v)
    × ((Another s v → ⊥) → read_header s size (only v) ≡ read_header s size both_versions)
