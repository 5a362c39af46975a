-- What it says that a number fits its field.
use Prim.Native.Nat.{ℕ, ◌+◌, ◌^◌, ◌≤◌, ◌<◌}
use native.Mathlib.Omega.{arith}
use mathlib.Core.Path.{◌≡◌, refl, sym, ap, ◌∙◌}
use mathlib.Core.Bool.{true, false}
use borrow.Author.Tests.{lt-ltb, le-ltb}
use mathlib.Core.List.{List}
use lib.Dec.{ltb}
use Rattle.crossing.specs.Inner.Rows.{word-inner}
use Rattle.std.specs.Prelude.{Option, Some, None, Result, Ok, Err}
use Rattle.std.specs.Result.{OkIff, result_ok}
use Rattle.bigendian.specs.Lists.{tab}
use Rattle.bigendian.proofs.Laws.Lists.{tab-ext, get_or-tab}
use Rattle.cdf.specs.Below.{all_below}
use Rattle.grammar.specs.Tables.{max_rank, id_at}
use Rattle.crossing.specs.Words.{word_at, var_of, var_in_fields}
use Rattle.crossing.specs.Inner.Taken.{when, ids_fit, part}
use Rattle.crossing.proofs.Laws.Loading.{all_same, when-none, when-some}

module _ {E : Type 0} (v m : ℕ) where
  -- a number that was tried does not fit, or it is what was taken
  pub too_wide : (r : Result ℕ E) {o : Option ℕ} → OkIff r (v < m) v → o ≡ result_ok r → o ≡ None → ltb v m ≡ false
  too_wide (Ok y) tried seen e = let f : Some y ≡ None = sym seen ∙ e in cc
  too_wide (Err d) tried seen e = let h : m ≤ v = omega (arith, tried) in le-ltb v m h

  pub narrow : (r : Result ℕ E) {o : Option ℕ} {x : ℕ} → OkIff r (v < m) v → o ≡ result_ok r → o ≡ Some x → (ltb v m ≡ true) × (x ≡ v)
  narrow (Ok y) {x = x} tried seen e = let f : Some y ≡ Some x = sym seen ∙ e in let g : y ≡ x = cc in (lt-ltb v m tried.0, sym g ∙ tried.1)
  narrow (Err d) {x = x} tried seen e = let f : None ≡ Some x = sym seen ∙ e in cc

-- the ids of a variable, whose words stand behind eight others
module _ (s : List ℕ) where
  ids-there : ids_fit (part s 8 8) ≡ all_below max_rank (λ k. ltb (id_at (var_of s 0) k) (2 ^ 32))
  unfolding ids_fit var_of
  ids-there = all_same _ _ 8 (λ k l. ap (λ (n : ℕ). ltb n (2 ^ 32)) (word-inner s 8 8 k (8 + k) l refl ∙ sym (get_or-tab (λ j. word_at s (8 + j)) 8 k 0 l)))

  -- they alone are left to test
  pub by-ids : ltb (word_at s 1) (2 ^ 32) ≡ true → ltb (word_at s 2) (2 ^ 8) ≡ true → ltb (word_at s 3) (2 ^ 8) ≡ true → ltb (word_at s 4) (2 ^ 8) ≡ true → ltb (word_at s 5) (2 ^ 8) ≡ true → var_in_fields (var_of s 0) ≡ ids_fit (part s 8 8)
  unfolding var_in_fields var_of
  by-ids a b d e f = simp (a, b, d, e, f) (sym ids-there)

  module _ {r : Option (List ℕ)} (tried : r ≡ when (ids_fit (part s 8 8)) (tab (word_at (part s 8 8)) 8)) where
    pub ids-out : r ≡ None → ids_fit (part s 8 8) ≡ false
    ids-out e = when-none _ _ (sym tried ∙ e)

    pub ids-in : {y : List ℕ} → r ≡ Some y → (ids_fit (part s 8 8) ≡ true) × (y ≡ tab (λ k. word_at s (8 + k)) max_rank)
    ids-in e = let f = when-some _ _ (sym tried ∙ e) in (f.0, f.1 ∙ tab-ext _ _ 8 (λ k l. word-inner s 8 8 k (8 + k) l refl))
