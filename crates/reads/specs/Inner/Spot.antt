-- How the code finds the place of an element in the window.
use Rattle.std.specs.Prelude.{ℕ, ◌-◌, ltb}
use Rattle.cdf.specs.Step.{Step, got, need}
use Rattle.reads.specs.Reads.{element_at, holds}
use Rattle.found.specs.declared.variable.Spread.{Spread}

-- an element: 18, 19, 20; then where it stands in the window
unfoldable pub element_spot : Spread → ℕ → ℕ → ℕ → ℕ → Step ℕ
element_spot v have start r e =
    need (ltb r v.records) 18 0 (
    need (ltb e v.chunk) 19 0 (
    need (holds have start (element_at v r e) v.width) 20 0 (
    got (element_at v r e - start) 0)))
