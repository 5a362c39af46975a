-- A name (01, Header grammar: "Name: length word, bytes, padding"; BNF: name, namestring).
use Rattle.std.specs.Prelude.{ℕ, ◌+◌, Bool, List, get_or, take, drop, eqb}
use Rattle.cdf.specs.Step.{Step, got, bind, need, at_hand}
use Rattle.cdf.specs.Below.{all_below}
use Rattle.cdf.specs.Word.{nelems}
use Rattle.cdf.specs.Padding.{zero_padding}
use Rattle.items.specs.Utf8.{utf8}

-- 01, Capacities: 256 bytes a name
abbrev pub longest_name : ℕ
longest_name = 256

-- the n bytes of s from a place
abbrev pub part : List ℕ → ℕ → ℕ → List ℕ
part s at n = take n (drop at s)

-- the n bytes of s from the place `at` are those of s' from the place `at'`
unfoldable pub same_bytes : List ℕ → ℕ → List ℕ → ℕ → ℕ → Bool
same_bytes s at s' at' n = all_below n (λ k. eqb (get_or s (at + k) 0) (get_or s' (at' + k) 0))

-- BNF: name = nelems namestring. 01, number 6: once all n bytes of the name are at hand, at the first of them. Its value is their number; they
-- stand after the length word
unfoldable pub name : ℕ → List ℕ → ℕ → ℕ → Step ℕ
name k s size at =
    bind (nelems longest_name k s size at) (λ n p.
    at_hand s size p n (
    need (utf8 (part s p n)) 6 p (
    bind (zero_padding n s size (p + n)) (λ _ e.
    got n e))))
