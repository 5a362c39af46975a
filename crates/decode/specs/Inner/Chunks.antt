-- The values of a chunk and of records, by the bytes that the code decodes them from.
use Rattle.std.specs.Prelude.{ℕ, ◌+◌, ◌*◌, List}
use Rattle.bigendian.specs.Number.{be}

-- value j of a chunk that starts where s does, of a type of w bytes whose number stands for the value F
abbrev pub of_chunk : {A : Type 0} → (ℕ → A) → ℕ → List ℕ → ℕ → A
of_chunk F w s j = F (be w s (w * j))

-- value j of record k, where record 0 starts where s does
abbrev pub of_record : {A : Type 0} → (ℕ → A) → ℕ → List ℕ → ℕ → ℕ → ℕ → A
of_record F w s stride k j = F (be w s (k * stride + w * j))
