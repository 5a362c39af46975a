-- Laws of what a line answers.
use Prim.Native.Nat.{ℕ, ◌*◌, ◌/◌, ◌%◌, ◌≤◌, ◌<◌}
use mathlib.Core.Path.{◌≡◌, sym, ap, ◌∙◌}
use mathlib.Core.Bool.{true, false}
use mathlib.Core.Logic.{⊎_elim}
use mathlib.Core.List.{List}
use native.Mathlib.Omega.{arith}
use borrow.Author.Tests.{lt-ltb, le-ltb, eq-eqb, ne_eqb}
use lib.ListN.{length, take}
use lib.Seq.{take_all, length-take-le}
use Rattle.bigendian.specs.Lists.{tab}
use Rattle.cdf.proofs.Laws.Below.{order}
use Rattle.hexlines.specs.Digit.{are_digits, pair}
use Rattle.hexlines.specs.Line.{long, hex, file, longest, kind_of}
use Rattle.hexlines.specs.Inner.Cut.{kept}

pub kind-long : (s : List ℕ) → longest < length s → long ≡ kind_of s
unfolding kind_of
kind-long s h = rw (lt-ltb longest (length s) h)

module _ (s : List ℕ) where
  pub kind-odd : length s ≤ longest → (length s % 2 ≡ 0 → ⊥) → hex ≡ kind_of s
  unfolding kind_of
  kind-odd h o = rw (le-ltb longest (length s) h, ne_eqb (length s % 2) 0 o)

  halves : length s % 2 ≡ 0 → length s / 2 * 2 ≡ length s
  halves e = omega arith

  pub kind-no-digits : length s ≤ longest → length s % 2 ≡ 0 → false ≡ are_digits (length s / 2 * 2) s → hex ≡ kind_of s
  unfolding kind_of
  kind-no-digits h e d =
      rw (le-ltb longest (length s) h, eq-eqb (length s % 2) 0 e, ap (λ (n : ℕ). are_digits n s) (sym (halves e)) ∙ sym d)

  pub kind-file : (f : List ℕ) → length s ≤ longest → length s % 2 ≡ 0 → true ≡ are_digits (length s / 2 * 2) s
      → f ≡ tab (pair s) (length s / 2) → file f ≡ kind_of s
  unfolding kind_of
  kind-file f h e d b =
      rw (le-ltb longest (length s) h, eq-eqb (length s % 2) 0 e, ap (λ (n : ℕ). are_digits n s) (sym (halves e)) ∙ sym d) (ap file b)

  -- the first characters that are kept answer as the whole line does
  pub kind-kept : kind_of (take kept s) ≡ kind_of s
  kind-kept =
      ⊎_elim
      (λ (l : length s ≤ kept). ap kind_of (take_all kept s l))
      (λ (l : kept < length s).
      let e : length (take kept s) ≡ kept = length-take-le kept s (omega arith) in
      sym (kind-long (take kept s) (omega arith)) ∙ kind-long s (omega arith))
      (order (length s) kept)
