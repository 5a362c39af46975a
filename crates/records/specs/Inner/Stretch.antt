-- The records that a read decodes, as places in the window.
use Rattle.std.specs.Prelude.{ℕ, ◌-◌, ◌*◌, List, ◌++◌, length, take, drop, ltb, leb, eqb}
use Rattle.bigendian.specs.Lists.{grid}
use Rattle.cdf.specs.Step.{Step, got, bind, test, need}
use Rattle.decode.specs.Inner.Chunks.{of_record}
use Rattle.reads.specs.Kept.{whole_bytes, kept_as}
use Rattle.reads.specs.Reads.{record_at, holds}
use Rattle.found.specs.declared.variable.Spread.{Spread}
use Rattle.records.specs.declared.stretch.Stretch.{Stretch}

-- the chunk of one record: 18, 20, 22
unfoldable pub record_stretch : Spread → ℕ → ℕ → ℕ → ℕ → Step Stretch
record_stretch v have start r room =
    need (ltb r v.records) 18 0 (
    need (holds have start (record_at v r) (v.chunk * v.width)) 20 0 (
    need (leb v.chunk room) 22 0 (
    got (record { at = record_at v r - start; count = 1; chunk = v.chunk; stride = v.step }) 0)))

-- all records: 20, 22. Where there are none, none is looked for
unfoldable pub whole_stretch : Spread → ℕ → ℕ → ℕ → Step Stretch
whole_stretch v have start room =
    test (eqb v.records 0)
    (got (record { at = 0; count = 0; chunk = v.chunk; stride = v.step }) 0)
    (need (holds have start v.begin (whole_bytes v)) 20 0 (
    need (leb (v.records * v.chunk) room) 22 0 (
    got (record { at = v.begin - start; count = v.records; chunk = v.chunk; stride = v.step }) 0)))

-- the chunk of a record of what was found, of the type `code`
unfoldable pub record_placed : ℕ → Step Spread → ℕ → ℕ → ℕ → ℕ → Step Stretch
record_placed code found have start r room = bind (kept_as code found) (λ v _. record_stretch v have start r room)

-- all records of what was found, of the type `code`
unfoldable pub whole_placed : ℕ → Step Spread → ℕ → ℕ → ℕ → Step Stretch
whole_placed code found have start room = bind (kept_as code found) (λ v _. whole_stretch v have start room)

-- the output that a stretch is decoded into, from the part `&s[at..]` of the window
unfoldable pub filled : {A : Type 0} → (ℕ → A) → ℕ → List ℕ → List A → Step Stretch → Step (List A)
filled F w s out m =
    bind m (λ x _.
    got (grid (of_record F w (take (length s - x.at) (drop x.at s)) x.stride) x.chunk x.count ++ drop (x.count * x.chunk) out) 0)
