-- What the parts of the loader answer.
use Rattle.std.specs.Prelude.{ℕ, ◌^◌, Bool, true, false, ◌≡◌, Option, Some, None, List, take, drop, ltb}
use Rattle.bigendian.specs.Lists.{tab}
use Rattle.cdf.specs.Below.{all_below}
use Rattle.grammar.specs.Tables.{max_rank}
use Rattle.crossing.specs.Words.{word_at}

-- a value, where a test holds
abbrev pub when : {A : Type 0} → Bool → A → Option A
when true x = Some x
when false x = None

-- the eight ids that words start with fit their fields
unfoldable pub ids_fit : List ℕ → Bool
ids_fit s = all_below max_rank (λ k. ltb (word_at s k) (2 ^ 32))

-- n words from a place on
abbrev pub part : List ℕ → ℕ → ℕ → List ℕ
part s at n = take n (drop at s)

-- what the loader of n rows answers, where row k is `row k` and fits its fields or not: whether all do, and then the rows
abbrev pub Taken : {A B : Type 0} → ℕ → (ℕ → Bool) → (ℕ → A) → Option B → List A → Type 0
Taken n fits row (Some _) rows = (all_below n fits ≡ true) × (rows ≡ tab row n)
Taken n fits row None rows = all_below n fits ≡ false
