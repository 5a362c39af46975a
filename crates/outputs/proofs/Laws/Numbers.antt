-- No refusal has the number 0: so an answer of the number 0 gives something.
use Prim.Native.Nat.{ℕ}
use native.Mathlib.Omega.{arith}
use mathlib.Core.Path.{◌≡◌, refl, sym, ap, ◌∙◌}
use mathlib.Core.Bool.{Bool, true, false}
use mathlib.Core.List.{List}
use lib.Dec.{eqb}
use borrow.Author.Tests.{eqb-false}
use Rattle.cdf.specs.Magic.{both_versions}
use Rattle.cdf.specs.Step.{Step, got, stop, test, need, into, number_of}
use Rattle.grammar.specs.declared.tables.Tables.{Tables}
use Rattle.header.specs.Header.{read_header, after_header}
use Rattle.header.specs.declared.reader.HeaderAnswer.{HeaderAnswer as Header}
use Rattle.crossing.specs.Words.{stored, loaded}
use Rattle.writer.specs.Writes.{write_header}
use Rattle.convert.specs.Convert.{new_tables, converted, convert}

abbrev pub Numbered : {A : Type 0} → Step A → Type 0
Numbered (got _ _) = Unit {0}
Numbered (stop k _) = k ≡ 0 → ⊥

given-numbered : {A : Type 0} (b : Bool) (k q : ℕ) (rest : Step A) → (b ≡ false → k ≡ 0 → ⊥) → Numbered rest → Numbered (need b k q rest)
unfolding test
given-numbered true k q rest n h = h
given-numbered false k q rest n h = n refl

need-numbered : {A : Type 0} (b : Bool) (k q : ℕ) (rest : Step A) → (k ≡ 0 → ⊥) → Numbered rest → Numbered (need b k q rest)
need-numbered b k q rest n h = given-numbered b k q rest (λ _. n) h

into-numbered : {A B : Type 0} (g : A → B) (m : Step A) → Numbered m → Numbered (into g m)
unfolding into
into-numbered g (got x n) h = tt
into-numbered g (stop k q) h = h

after-numbered : {A : Type 0} (h : Header) (f : Header → Step A) → Numbered (f h) → Numbered (after_header h f)
after-numbered h f z = given-numbered (eqb h.number 0) h.number h.place (f h) (λ e. eqb-false h.number 0 e) z

pub stored-numbered : (t : Tables) (out : List ℕ) → Numbered (stored t out)
unfolding stored
stored-numbered t out = need-numbered _ 22 0 _ (λ e. omega arith) tt

pub loaded-numbered : (s : List ℕ) → Numbered (loaded s)
unfolding loaded
loaded-numbered s = need-numbered _ 23 0 _ (λ e. omega arith) tt

pub write-numbered : (s : List ℕ) (t : Tables) (out : List ℕ) → Numbered (write_header s t out)
unfolding write_header
write-numbered s t out = need-numbered _ 23 0 _ (λ e. omega arith) (need-numbered _ 22 0 _ (λ e. omega arith) tt)

converted-numbered : (version : ℕ) (s : List ℕ) (h : Header) (out : List ℕ) → Numbered (converted version s h out)
unfolding converted
converted-numbered version s h out =
    need-numbered _ 24 0 _ (λ e. omega arith) (
    need-numbered _ 25 0 _ (λ e. omega arith) (
    need-numbered _ 21 0 _ (λ e. omega arith) (
    need-numbered _ 15 0 _ (λ e. omega arith) (
    into-numbered _ (write_header s (new_tables version s h) out) (write-numbered s (new_tables version s h) out)))))

pub convert-numbered : (version : ℕ) (s : List ℕ) (size : ℕ) (out : List ℕ) → Numbered (convert version s size out)
unfolding convert
convert-numbered version s size out = after-numbered (read_header s size both_versions) (λ h. converted version s h out) (converted-numbered version s (read_header s size both_versions) out)

-- a number other than 0 is a refusal's, and with 0 something is given
pub number-stops : {A : Type 0} (y : Step A) {k : ℕ} → k ≡ number_of y → (k ≡ 0 → ⊥) → {Q : Type 0} → ((p : ℕ) → stop k p ≡ y → Q) → Q
number-stops (got x n) e z f = absurd (z e)
number-stops (stop i p) e z f = f p (ap (λ (j : ℕ). stop j p) e)

pub number-gives : {A : Type 0} (y : Step A) {k : ℕ} → Numbered y → k ≡ number_of y → k ≡ 0 → {Q : Type 0} → ((x : A) (n : ℕ) → got x n ≡ y → Q) → Q
number-gives (got x n) m e z f = f x n refl
number-gives (stop i p) m e z f = absurd (m (sym e ∙ z))
