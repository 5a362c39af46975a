-- How a list starts (01, Header grammar: "List"; BNF: dim_list, att_list, var_list, ABSENT, NC_DIMENSION, NC_VARIABLE, NC_ATTRIBUTE).
use Rattle.std.specs.Prelude.{ℕ, ◌+◌, List, [], ◌∷◌, replicate}
use Rattle.cdf.specs.Step.{Step, got, test, need, at_hand}
use Rattle.cdf.specs.Word.{nelems}
use Rattle.cdf.specs.Magic.{begins}

-- how many items follow: none where as many zero bytes as an absent list has stand there; else the count word after the tag of four bytes,
-- refused above the room for items (10). 01, number 9: the bytes at hand begin neither form, at the list's first word
unfoldable pub list_start : ℕ → ℕ → ℕ → ℕ → List ℕ → ℕ → ℕ → Step ℕ
list_start absent k tag room s size at =
    test (begins (replicate absent 0) s at)
    (at_hand s size at absent (got 0 (at + absent)))
    (need (begins (0 ∷ 0 ∷ 0 ∷ tag ∷ []) s at) 9 at (
    nelems room k s size (at + 4)))
