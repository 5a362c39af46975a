-- The answers of the loader.
use Prim.Native.Nat.{ℕ, ◌+◌, ◌*◌, ◌≤◌, ◌<◌}
use native.Mathlib.Omega.{arith}
use native.Mathlib.Nat.{mul-suc, mul-le-mul_left}
use mathlib.Core.Path.{◌≡◌, refl, sym, ap, ◌∙◌}
use mathlib.Core.Bool.{Bool, true, false, ◌&&◌}
use mathlib.Core.List.{List}
use lib.ListN.{length, get_or}
use lib.Dec.{leb, ltb}
use borrow.Author.Tests.{le-leb, lt-leb}
use Rattle.bigendian.specs.Lists.{tab}
use Rattle.bigendian.proofs.Laws.Lists.{get_or-tab, tab-ext}
use Rattle.cdf.specs.Below.{all_below}
use Rattle.std.specs.Prelude.{Option, Some, None, Result}
use Rattle.std.specs.Option.{ok_or}
use Rattle.cdf.specs.Step.{got, need, test}
use Rattle.cdf.specs.Refusals.{of_result}
use Rattle.cdf.specs.declared.refusal.Refusal.{Refusal}
use Rattle.cdf.specs.declared.refusal.Refusal.TheVariants.{Tables as Refused}
use Rattle.grammar.specs.Tables.{no_dim, no_attr, no_var}
use Rattle.grammar.specs.declared.tables.Dim.{Dim}
use Rattle.grammar.specs.declared.tables.Attr.{Attr}
use Rattle.grammar.specs.declared.tables.Var.{Var}
use Rattle.grammar.specs.declared.tables.Tables.{Tables}
use Rattle.crossing.specs.Words.{word_at, dim_of, attr_of, var_of, dims_in, attrs_in, vars_in, tables_of, dim_in_fields, attr_in_fields, var_in_fields, tables_in_fields, table_length, loaded}
use Rattle.crossing.specs.Inner.Taken.{when, part}
use Rattle.crossing.proofs.Laws.Loading.{all_same}

-- the numbers of all rows of a list fit their fields
abbrev pub dims_fit : List ℕ → Bool
dims_fit s = all_below 32 (λ i. dim_in_fields (dim_of s (8 + 3 * i)))

abbrev pub attrs_fit : List ℕ → Bool
attrs_fit s = all_below 128 (λ i. attr_in_fields (attr_of s (104 + 5 * i)))

abbrev pub vars_fit : List ℕ → Bool
vars_fit s = all_below 64 (λ i. var_in_fields (var_of s (744 + 16 * i)))

-- a list that was taken up out of a part of the words
module _ {A : Type 0} (fits : A → Bool) (said : List ℕ → ℕ → A) (m : ℕ) (inner : (s : List ℕ) (at n i : ℕ) → i + m ≤ n → said (part s at n) i ≡ said s (at + i)) (s : List ℕ) (at n : ℕ) where
  cut : {w : ℕ} → w ≡ m * n → (k : ℕ) → k < n → said (part s at w) (m * k) ≡ said s (at + m * k)
  cut {w} e k h = let a = mul-le-mul_left m h in let b = mul-suc m k in inner s at w (m * k) (omega arith)

  fits-are : {w : ℕ} → w ≡ m * n → all_below n (λ k. fits (said s (at + m * k))) ≡ all_below n (λ k. fits (said (part s at w) (m * k)))
  fits-are e = all_same _ _ n (λ k h. ap fits (sym (cut e k h)))

  pub list-out : {w k : ℕ} → w ≡ m * n → k ≡ n → all_below k (λ j. fits (said (part s at w) (m * j))) ≡ false → all_below n (λ j. fits (said s (at + m * j))) ≡ false
  list-out {w} e f h = fits-are e ∙ rw f at h

  pub list-in : {w k : ℕ} {rows : List A} → w ≡ m * n → k ≡ n → (all_below k (λ j. fits (said (part s at w) (m * j))) ≡ true) × (rows ≡ tab (λ j. said (part s at w) (m * j)) k)
      → (all_below n (λ j. fits (said s (at + m * j))) ≡ true) × (rows ≡ tab (λ j. said s (at + m * j)) n)
  list-in {w} e f h = let t = rw f at h in (fits-are e ∙ t.0, t.1 ∙ tab-ext _ _ n (λ k l. cut e k l))

-- of rows that are given by their number
rows_same : {A : Type 0} (f : A → Bool) (g : ℕ → A) (z : A) (n : ℕ) → all_below n (λ i. f (get_or (tab g n) i z)) ≡ all_below n (λ i. f (g i))
rows_same f g z n = all_same _ _ n (λ k l. ap f (get_or-tab g n k z l))

module _ (s : List ℕ) where
  -- what the loader tests
  abbrev all_fit : Bool
  all_fit = ltb (word_at s 0) 256 && (dims_fit s && (attrs_fit s && vars_fit s))

  fit_is : tables_in_fields (tables_of s) ≡ all_fit
  unfolding tables_in_fields tables_of
  fit_is =
      let d = rows_same dim_in_fields (λ i. dim_of s (8 + 3 * i)) no_dim 32 in
      let a = rows_same attr_in_fields (λ i. attr_of s (104 + 5 * i)) no_attr 128 in
      let v = rows_same var_in_fields (λ i. var_of s (744 + 16 * i)) no_var 64 in
      ap (λ (b : Bool). ltb (word_at s 0) 256 && b)
      (ap (λ (b : Bool). b && (all_below 128 (λ i. attr_in_fields (get_or (attrs_in s) i no_attr)) && all_below 64 (λ i. var_in_fields (get_or (vars_in s) i no_var)))) d
      ∙ ap (λ (b : Bool). dims_fit s && b) (ap (λ (b : Bool). b && all_below 64 (λ i. var_in_fields (get_or (vars_in s) i no_var))) a ∙ ap (λ (b : Bool). attrs_fit s && b) v))

  -- what the loader answers
  abbrev Answers : Option Tables → Type 0
  Answers o = o ≡ when (leb table_length (length s) && tables_in_fields (tables_of s)) (tables_of s)

  pub few_words : length s < 1768 → Answers None
  few_words h = rw (lt-leb 1768 (length s) h)

  module _ {o : Option Tables} (none : o ≡ None) (room : 1768 ≤ length s) where
    unfit : all_fit ≡ false → Answers o
    unfit e = none ∙ rw (le-leb 1768 (length s) room, fit_is, e)

    pub wide-version : ltb (word_at s 0) 256 ≡ false → Answers o
    wide-version e = unfit (rw e)

    module _ (version : ltb (word_at s 0) 256 ≡ true) where
      pub wide-dims : dims_fit s ≡ false → Answers o
      wide-dims e = unfit (rw (version, e))

      pub wide-attrs : dims_fit s ≡ true → attrs_fit s ≡ false → Answers o
      wide-attrs d e = unfit (rw (version, d, e))

      pub wide-vars : dims_fit s ≡ true → attrs_fit s ≡ true → vars_fit s ≡ false → Answers o
      wide-vars d a e = unfit (rw (version, d, a, e))

  -- the tables, which hold the three lists as they were taken up
  pub tables-taken : 1768 ≤ length s → {n : ℕ} {ds : List Dim} {xs : List Attr} {vs : List Var} → (ltb (word_at s 0) 256 ≡ true) × (n ≡ word_at s 0)
      → (dims_fit s ≡ true) × (ds ≡ dims_in s) → (attrs_fit s ≡ true) × (xs ≡ attrs_in s) → (vars_fit s ≡ true) × (vs ≡ vars_in s)
      → Answers (Some (record { version = n; word = word_at s 1; count = word_at s 2; size = word_at s 3; ndims = word_at s 4; dims = ds; nattrs = word_at s 5; globals = word_at s 6; attrs = xs; nvars = word_at s 7; vars = vs }))
  unfolding tables_of
  tables-taken room n d a v =
      ap (λ (t : Tables). Some t) (λ j. record { version = n.1 j; word = word_at s 1; count = word_at s 2; size = word_at s 3; ndims = word_at s 4; dims = d.1 j; nattrs = word_at s 5; globals = word_at s 6; attrs = a.1 j; nvars = word_at s 7; vars = v.1 j })
      ∙ some
    where
      some : Answers (Some (tables_of s))
      some = rw (le-leb 1768 (length s) room, fit_is, n.0, d.0, a.0, v.0)

  -- and what is answered of it
  pub loads : {o : Option Tables} {r : Result Tables Refusal} → Answers o → r ≡ ok_or o Refused → of_result r ≡ loaded s
  unfolding loaded test
  loads {o} e f = ap of_result f ∙ ap (λ (p : Option Tables). of_result (ok_or p Refused)) e ∙ by (leb table_length (length s) && tables_in_fields (tables_of s))
    where
      by : (b : Bool) → of_result (ok_or (when b (tables_of s)) Refused) ≡ need b 23 0 (got (tables_of s) 0)
      by true = refl
      by false = refl
