-- Well-formed UTF-8 (01, Header grammar: "UTF-8 as in Unicode's table of well-formed sequences"; the Unicode Standard, table 3-7).
use Rattle.std.specs.Prelude.{ℕ, ◌-◌, Bool, false, cond, List, [], ◌∷◌, eqb, Option, Some, None}
use Rattle.cdf.specs.Below.{between}
use Rattle.items.specs.declared.utf8.Due.{Due}

-- a row of table 3-7: the first byte from `from` to `to`, then `more` bytes, the second from `low` to `high`, the third and fourth from 80 to BF
pub record Row : Type 0 where
  pub from : ℕ
  pub to : ℕ
  pub more : ℕ
  pub low : ℕ
  pub high : ℕ

-- table 3-7. Its first row, 00 to 7F, has no second byte
abbrev pub sequences : List Row
sequences =
    record { from = 0x00; to = 0x7F; more = 0; low = 0x80; high = 0xBF }
    ∷ record { from = 0xC2; to = 0xDF; more = 1; low = 0x80; high = 0xBF }
    ∷ record { from = 0xE0; to = 0xE0; more = 2; low = 0xA0; high = 0xBF }
    ∷ record { from = 0xE1; to = 0xEC; more = 2; low = 0x80; high = 0xBF }
    ∷ record { from = 0xED; to = 0xED; more = 2; low = 0x80; high = 0x9F }
    ∷ record { from = 0xEE; to = 0xEF; more = 2; low = 0x80; high = 0xBF }
    ∷ record { from = 0xF0; to = 0xF0; more = 3; low = 0x90; high = 0xBF }
    ∷ record { from = 0xF1; to = 0xF3; more = 3; low = 0x80; high = 0xBF }
    ∷ record { from = 0xF4; to = 0xF4; more = 3; low = 0x80; high = 0x8F }
    ∷ []

-- the first byte of a sequence: what is due after it, by the first row of a table that has it
unfoldable pub opening : List Row → ℕ → Option Due
opening [] b = None
opening (r ∷ rs) b = cond (between r.from r.to b) (Some (record { more = r.more; low = r.low; high = r.high })) (opening rs b)

-- one byte more: the first of a sequence where none is due, else the next one due
unfoldable pub after : Due → ℕ → Option Due
after d b =
    cond (eqb d.more 0) (opening sequences b)
    (cond (between d.low d.high b) (Some (record { more = d.more - 1; low = 0x80; high = 0xBF })) None)

-- the bytes of a text, one after the other: every byte fits, and none is due at the end
unfoldable pub scan : List ℕ → Option Due → Bool
scan [] None = false
scan [] (Some d) = eqb d.more 0
scan (b ∷ bs) None = false
scan (b ∷ bs) (Some d) = scan bs (after d b)

-- 01: "UTF-8 as in Unicode's table of well-formed sequences". At a text's start no byte is due
unfoldable pub utf8 : List ℕ → Bool
utf8 bs = scan bs (Some (record { more = 0; low = 0x80; high = 0xBF }))
