-- Lengths of rows that are cut out of all rows.
use Prim.Native.Nat.{ℕ, ◌+◌, ◌-◌, ◌≤◌}
use native.Mathlib.Omega.{arith}
use native.Mathlib.Nat.{zero-add}
use mathlib.Core.Path.{◌≡◌, sym, ap, ◌∙◌}
use mathlib.Core.List.{List}
use lib.ListN.{length, take, drop, get_or, length-drop}
use lib.Seq.{get_or-take, get_or-drop, length-take-le}
use Rattle.grammar.specs.Tables.{no_dim, no_attr, no_var}
use Rattle.grammar.specs.declared.tables.Attr.{Attr}
use Rattle.grammar.specs.declared.tables.Tables.{Tables}
use Rattle.sizes.specs.Records.{total}
use Rattle.order.specs.Inner.Lengths.{dim_length, attr_length, attrs_length, dims_length, vars_length, header_length}
use Rattle.order.specs.Inner.Lengths as lengths
use Rattle.order.proofs.Laws.Sums.{header-by}
use Rattle.convert.specs.Inner.Read.{var_length, versioned}
use Rattle.convert.proofs.Laws.Read.{total-same}

pub both_same : {a b c d : ℕ} → a ≡ b → c ≡ d → a + c ≡ b + d
both_same e f = λ i. e i + f i

-- the first n rows
front : {A : Type 0} (g : A → ℕ) (xs : List A) (d : A) (n : ℕ) → n ≤ length xs → total (λ i. g (get_or (take n xs) i d)) (length (take n xs)) ≡ total (λ i. g (get_or xs i d)) n
front g xs d n h = ap (total (λ i. g (get_or (take n xs) i d))) (length-take-le n xs h) ∙ total-same _ _ n (λ k l. ap g (get_or-take n xs k d l))

-- n rows from a row on, as the code cuts them out
pub span-length : (xs : List Attr) (first n : ℕ) → first + n ≤ length xs
    → attrs_length (take (first + n - first) (drop first xs)) 0 (length (take (first + n - first) (drop first xs))) ≡ attrs_length xs first n
unfolding attrs_length
span-length xs first n h =
    let e : first + n - first ≡ n = omega arith in
    let d = length-drop first xs in
    rw e
    (ap (total (λ j. attr_length (get_or (take n (drop first xs)) (0 + j) no_attr))) (length-take-le n (drop first xs) (omega arith))
    ∙ total-same _ _ n (λ k l. ap attr_length (ap (λ (i : ℕ). get_or (take n (drop first xs)) i no_attr) (zero-add k) ∙ get_or-take n (drop first xs) k no_attr l ∙ get_or-drop first xs k no_attr)))

front-attrs : (xs : List Attr) (n : ℕ) → n ≤ length xs → attrs_length (take n xs) 0 (length (take n xs)) ≡ attrs_length xs 0 n
unfolding attrs_length
front-attrs xs n h =
    ap (total (λ j. attr_length (get_or (take n xs) (0 + j) no_attr))) (length-take-le n xs h)
    ∙ total-same _ _ n (λ k l. ap attr_length (ap (λ (i : ℕ). get_or (take n xs) i no_attr) (zero-add k) ∙ get_or-take n xs k no_attr l ∙ sym (ap (λ (i : ℕ). get_or xs i no_attr) (zero-add k))))

-- the whole header
pub header-cut : (version : ℕ) (t : Tables) → t.ndims ≤ length t.dims → t.globals ≤ length t.attrs → t.nvars ≤ length t.vars → {d a v : ℕ}
    → d ≡ total (λ i. dim_length (get_or (take t.ndims t.dims) i no_dim)) (length (take t.ndims t.dims))
    → a ≡ attrs_length (take t.globals t.attrs) 0 (length (take t.globals t.attrs))
    → v ≡ total (λ i. var_length version t.attrs (get_or (take t.nvars t.vars) i no_var)) (length (take t.nvars t.vars))
    → 8 + (8 + d) + (8 + a) + (8 + v) ≡ header_length (versioned version t)
unfolding dims_length vars_length lengths.var_length
header-cut version t x y z d a v =
    header-by (versioned version t) (d ∙ front dim_length t.dims no_dim t.ndims x) (a ∙ front-attrs t.attrs t.globals y) (v ∙ front (var_length version t.attrs) t.vars no_var t.nvars z)
