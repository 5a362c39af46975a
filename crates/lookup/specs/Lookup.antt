-- Name lookup (01, What is taken from the crate: "lookup gives the first number for a name, or the name for a number"; Answer numbers, 23 and 16).
use Rattle.std.specs.Prelude.{ℕ, ◌+◌, Bool, ◌&&◌, ◌≡◌, List, length, ltb, leb, eqb}
use Rattle.std.specs.Borrow.{Bor}
use Rattle.cdf.specs.Step.{Step, got, need, given_or}
use Rattle.cdf.specs.Below.{all_below, first_where}
use Rattle.items.specs.Name.{part, same_bytes}
use Rattle.grammar.specs.Tables.{max_vars, var_at}
use Rattle.grammar.specs.declared.tables.Tables.{Tables}
use Rattle.model.specs.declared.names.Span.{Span}
use Rattle.model.specs.Model.{var_names}

-- 01, number 23: "Name lookup tests the variable count and that variable names lie inside the buffer"
unfoldable pub names_inside : List ℕ → Tables → Bool
names_inside s t = leb t.nvars max_vars && all_below t.nvars (λ i. leb ((var_at t i).name + (var_at t i).chars) (length s))

-- the name of the i-th variable is the one that is looked for
abbrev pub is_named : List ℕ → Tables → List ℕ → ℕ → Bool
is_named s t wanted i = eqb (var_at t i).chars (length wanted) && same_bytes s (var_at t i).name wanted 0 (var_at t i).chars

-- the first variable of a name, or the number of variables where none has it
unfoldable pub first_named : List ℕ → Tables → List ℕ → ℕ
first_named s t wanted = first_where t.nvars (is_named s t wanted)

-- "the first number for a name": 23, then 16
unfoldable pub find_var : List ℕ → Tables → List ℕ → Step ℕ
find_var s t wanted =
    need (names_inside s t) 23 0 (
    need (ltb (first_named s t wanted) t.nvars) 16 0 (
    got (first_named s t wanted) 0))

-- "the name for a number", by where it stands in the buffer: 23, then 16
unfoldable pub name_of : List ℕ → Tables → ℕ → Step Span
name_of s t i =
    need (names_inside s t) 23 0 (
    need (ltb i t.nvars) 16 0 (
    got (var_names t i) 0))

-- "Names are handed back as the part of the caller's buffer that holds them": r is the part of the buffer b that a span names, the same memory
-- and not merely the same bytes
pub record IsPart (b : Bor (List ℕ)) (span : Span) (r : Bor (List ℕ)) : Type 0 where
  pub block : r.ref_ptr.0 ≡ b.ref_ptr.0
  pub start : r.ref_ptr.1 ≡ b.ref_ptr.1 + span.at
  pub bytes : r.now ≡ part b.now span.at span.chars

-- the contract of the lookup of a name: "its refusals hand back the empty part", which is the one at the buffer's start
abbrev pub IsName : Bor (List ℕ) → Tables → ℕ → Bor (List ℕ) → Type 0
IsName b t i r = IsPart b (given_or (record { at = 0; chars = 0 }) (name_of b.now t i)) r
