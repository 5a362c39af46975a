-- Laws of what the header reader answers.
use Prim.Native.Nat.{ℕ, ◌≤◌, ◌<◌}
use mathlib.Core.Path.{◌≡◌, refl, ap, ◌∙◌}
use mathlib.Core.Bool.{true, false, ◌&&◌, and-false}
use mathlib.Core.List.{List}
use lib.ListN.{length}
use lib.Dec.{leb}
use borrow.Author.Tests.{le-leb, lt-leb, eq-eqb, ne_eqb}
use Rattle.cdf.specs.Step.{Step, got, stop, into}
use Rattle.cdf.specs.declared.version.Admitted.{Admitted}
use Rattle.cdf.proofs.Laws.Step.{by-got, by-stop, by-true, by-false}
use Rattle.grammar.specs.Tables.{laid, with_count}
use Rattle.grammar.specs.Grammar.{header}
use Rattle.model.specs.Model.{model_holds}
use Rattle.sizes.specs.Records.{sizes_hold, ends_hold, max_position}
use Rattle.sizes.specs.Count.{record_count}
use Rattle.std.specs.Prelude.{Result, Ok, Err}
use Rattle.std.specs.Result.{IsErrAnd}
use Rattle.cdf.specs.Refusals.{number}
use Rattle.cdf.specs.declared.refusal.Refusal.TheVariants.{FileSize}
use Rattle.cdf.specs.declared.refusal.Stop.{Stop}
use Rattle.header.specs.Header.{refusal, answer, judged, read_header, after_header}
use Rattle.grammar.specs.declared.tables.Tables.{Tables}
use Rattle.header.specs.declared.reader.HeaderAnswer.{HeaderAnswer as Header}

-- a refusal that is passed on
pub passed : {A E : Type 0} (r : Result A E) {k : E} → IsErrAnd r (λ l. l ≡ k) → r ≡ Err k
passed (Err l) e = ap (λ z. Err z) e
passed (Ok x) e = absurd e

answer-stop : {h : Header} {m : Step Tables} {k p : ℕ} → h ≡ refusal k p → stop k p ≡ m → h ≡ answer m
unfolding answer
answer-stop e f = e ∙ ap answer f

module _ (s : List ℕ) (t : Tables) (e : ℕ) where
  pub judged-model : model_holds s t ≡ false → stop 11 0 ≡ judged s t e
  unfolding judged
  judged-model m = by-false _ m refl

  module _ (model : model_holds s t ≡ true) where
    pub judged-sizes : sizes_hold t ≡ false → stop 12 0 ≡ judged s t e
    unfolding judged
    judged-sizes z = by-true _ model (by-false _ z refl)

    module _ (sizes : sizes_hold t ≡ true) where
      pub judged-count : {k : ℕ} → stop k 0 ≡ record_count t → stop k 0 ≡ judged s t e
      unfolding judged
      judged-count c = by-true _ model (by-true _ sizes (by-stop _ c))

      module _ {n : ℕ} (counted : got n 0 ≡ record_count t) where
        pub judged-ends : ends_hold t n ≡ false → stop 15 0 ≡ judged s t e
        unfolding judged
        judged-ends x = by-true _ model (by-true _ sizes (by-got _ _ counted (by-false _ x refl)))

        pub judged-got : ends_hold t n ≡ true → got (with_count t n) e ≡ judged s t e
        unfolding judged
        judged-got x = by-true _ model (by-true _ sizes (by-got _ _ counted (by-true _ x refl)))

module _ (s : List ℕ) (size : ℕ) (a : Admitted) where
  module _ {r : Stop} (told : r ≡ record { why = FileSize; place = 0 }) where
    size-refused : refusal (number r.why) r.place ≡ refusal 21 0
    size-refused = ap (λ (k : Stop). refusal (number k.why) k.place) told

    pub read-longer : size < length s → refusal (number r.why) r.place ≡ read_header s size a
    unfolding read_header
    read-longer l = answer-stop size-refused (by-false _ (rw (lt-leb (length s) size l)) refl)

    pub read-larger : max_position < size → refusal (number r.why) r.place ≡ read_header s size a
    unfolding read_header
    read-larger l = answer-stop size-refused (by-false _ (rw (lt-leb size max_position l) (and-false (leb (length s) size))) refl)

  module _ (inside : length s ≤ size) (small : size ≤ max_position) where
    both_hold : (leb (length s) size && leb size max_position) ≡ true
    both_hold = rw (le-leb (length s) size inside, le-leb size max_position small)

    pub read-stops : {k p : ℕ} → stop k p ≡ into laid (header a s size) → refusal k p ≡ read_header s size a
    unfolding read_header
    read-stops f = answer-stop refl (by-true _ both_hold (by-stop _ f))

    module _ {t : Tables} {e : ℕ} (read : got t e ≡ into laid (header a s size)) where
      pub rule-stops : {k : ℕ} → stop k 0 ≡ judged s t e → refusal k 0 ≡ read_header s size a
      unfolding read_header
      rule-stops g = answer-stop refl (by-true _ both_hold (by-got _ _ read g))

      pub read-judged : {n : ℕ} → got (with_count t n) e ≡ judged s t e → record { number = 0; place = 0; end = e; tables = with_count t n } ≡ read_header s size a
      unfolding read_header answer
      read-judged g = ap answer (by-true _ both_hold (by-got _ _ read g))

-- what follows a header
module _ {A : Type 0} (h : Header) (f : Header → Step A) where
  pub after-refused : (h.number ≡ 0 → ⊥) → stop h.number h.place ≡ after_header h f
  after-refused n = by-false _ (ne_eqb h.number 0 n) refl

  pub after_read : h.number ≡ 0 → f h ≡ after_header h f
  after_read e = by-true _ (eq-eqb h.number 0 e) refl
