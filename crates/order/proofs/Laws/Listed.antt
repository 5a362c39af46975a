-- The attributes of one list, as a part of the rows.
use Prim.Native.Nat.{ℕ, ◌+◌, ◌≤◌, ◌<◌}
use native.Mathlib.Omega.{arith}
use native.Mathlib.Nat.{zero-add}
use mathlib.Core.Path.{◌≡◌, ap, ◌∙◌}
use mathlib.Core.List.{List}
use lib.ListN.{length, get_or, take, drop}
use Rattle.std.proofs.lemmas.List.{get_or-take, get_or-drop, length-take-le, length-drop}
use Rattle.cdf.specs.Below.{all_below}
use Rattle.model.proofs.Laws.Rows.{all-same}
use Rattle.sizes.specs.Records.{total}
use Rattle.grammar.specs.Tables.{no_attr}
use Rattle.grammar.specs.declared.tables.Attr.{Attr}
use Rattle.order.specs.Inner.Lengths.{attr_length, attrs_length}
use Rattle.order.specs.Inner.Tests.{attr_tested, attrs_tested}
use Rattle.order.proofs.Laws.Lists.{total-same}

-- the n rows from `first` on
module _ (rows : List Attr) (first n : ℕ) {m : ℕ} (same : m ≡ n) (inside : first + n ≤ length rows) where
  abbrev pub listed : List Attr
  listed = take m (drop first rows)

  pub length-listed : length listed ≡ n
  length-listed = length-take-le m (drop first rows) (omega (arith, length-drop first rows)) ∙ same

  pub listed-at : (j : ℕ) → j < n → get_or listed j no_attr ≡ get_or rows (first + j) no_attr
  listed-at j l = get_or-take m (drop first rows) j no_attr (omega arith) ∙ get_or-drop first rows j no_attr

  from-zero : (j : ℕ) → j < n → get_or listed (0 + j) no_attr ≡ get_or rows (first + j) no_attr
  from-zero j l = ap (λ (i : ℕ). get_or listed i no_attr) (zero-add j) ∙ listed-at j l

  pub listed-tested : (s : List ℕ) → attrs_tested s listed 0 (length listed) ≡ attrs_tested s rows first n
  unfolding attrs_tested
  listed-tested s =
      ap (λ (i : ℕ). all_below i (λ j. attr_tested s (get_or listed (0 + j) no_attr))) length-listed
      ∙ all-same _ _ n (λ j l. ap (attr_tested s) (from-zero j l))

  pub listed-length : attrs_length listed 0 (length listed) ≡ attrs_length rows first n
  unfolding attrs_length
  listed-length = ap (total (λ j. attr_length (get_or listed (0 + j) no_attr))) length-listed ∙ total-same _ _ n (λ j l. ap attr_length (from-zero j l))

  pub listed-inside : (s : List ℕ) {k : ℕ} → first + n ≤ k → ((i : ℕ) → i < k → (get_or rows i no_attr).name + (get_or rows i no_attr).chars ≤ length s) → (i : ℕ) → i < length listed
      → (get_or listed i no_attr).name + (get_or listed i no_attr).chars ≤ length s
  listed-inside s h all i l = rw (listed-at i (omega (arith, length-listed))) (all (first + i) (omega (arith, length-listed)))
