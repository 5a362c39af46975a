-- The lengths of rows, and their sums, within bounds.
use Prim.Native.Nat.{ℕ, ◌+◌, ◌*◌, ◌≤◌, ◌<◌}
use native.Mathlib.Omega.{arith}
use native.Mathlib.Numerals.{add-one}
use native.Mathlib.Nat.{mul-le-mul_left, zero-add}
use mathlib.Core.Path.{◌≡◌, refl, sym, ap, ◌∙◌}
use mathlib.Core.List.{List}
use lib.ListN.{get_or}
use Rattle.cdf.specs.Padding.{padding}
use Rattle.items.specs.Types.{size_of}
use Rattle.grammar.specs.Tables.{no_attr, dim_at, var_at}
use Rattle.grammar.specs.declared.tables.Attr.{Attr}
use Rattle.grammar.specs.declared.tables.Var.{Var}
use Rattle.grammar.specs.declared.tables.Tables.{Tables}
use Rattle.sizes.specs.Records.{total}
use Rattle.order.specs.Inner.Lengths.{name_length, dim_length, attr_length, attrs_length, var_alone, var_length, dims_length, vars_length, header_length}

-- the bytes of the values of an attribute
pub values-fit : (n w : ℕ) → n < 4294967296 → w ≤ 8 → n * w ≤ 34359738360
values-fit n w h l = let q = mul-le-mul_left n l in omega arith

-- sums, one more item
pub sum-none : (g : ℕ → ℕ) → 0 ≡ total g 0
unfolding total
sum-none g = refl

pub sum_more : (g : ℕ → ℕ) (i : ℕ) {x y : ℕ} → x ≡ total g i → y ≡ g i → x + y ≡ total g (i + 1)
unfolding total
sum_more g i e f = rw (add-one, e, f)

-- the rows of the global attributes start at 0
pub length-from-zero : (rows : List Attr) (i : ℕ) {x : ℕ} → x ≡ attr_length (get_or rows i no_attr) → x ≡ attr_length (get_or rows (0 + i) no_attr)
length-from-zero rows i e = e ∙ sym (ap (λ k. attr_length (get_or rows k no_attr)) (zero-add i))

-- the lengths of lists, and of what they are made of
pub attrs-all : (rows : List Attr) (first : ℕ) {i n x : ℕ} → i ≡ n → x ≡ total (λ j. attr_length (get_or rows (first + j) no_attr)) i → x ≡ attrs_length rows first n
unfolding attrs_length
attrs-all rows first e f = rw (← e, f)

pub attr-by : (a : Attr) {w n p : ℕ} → w ≡ size_of a.code → n ≡ name_length a.chars → p ≡ padding (a.count * w) → n + 8 + (a.count * w + p) ≡ attr_length a
unfolding attr_length
attr-by a d e f = rw (e, f, d)

pub dims-all : (t : Tables) {i x : ℕ} → i ≡ t.ndims → x ≡ total (λ j. dim_length (dim_at t j)) i → x ≡ dims_length t
unfolding dims_length
dims-all t e f = f ∙ ap (total (λ j. dim_length (dim_at t j))) e

pub vars-all : (t : Tables) {i x : ℕ} → i ≡ t.nvars → x ≡ total (λ j. var_length t (var_at t j)) i → x ≡ vars_length t
unfolding vars_length
vars-all t e f = f ∙ ap (total (λ j. var_length t (var_at t j))) e

-- what is read of a variable, and its attributes
pub var-all : (t : Tables) (v : Var) {x y : ℕ} → x ≡ var_alone t.version v → y ≡ attrs_length t.attrs v.first v.attrs → x + y ≡ var_length t v
unfolding var_length
var-all t v e f = rw (e, f)

pub header-by : (t : Tables) {d a v : ℕ} → d ≡ dims_length t → a ≡ attrs_length t.attrs 0 t.globals → v ≡ vars_length t → 8 + (8 + d) + (8 + a) + (8 + v) ≡ header_length t
unfolding header_length
header-by t e f g = rw (e, f, g)
