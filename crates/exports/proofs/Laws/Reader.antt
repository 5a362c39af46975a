-- Laws of headers and tables that cross.
use Prim.Native.Nat.{ℕ}
use mathlib.Core.Path.{◌≡◌, refl, sym, ap, ◌∙◌}
use mathlib.Core.List.{List}
use Rattle.std.specs.Prelude.{Err}
use Rattle.cdf.specs.Refusals.{number}
use Rattle.cdf.specs.declared.refusal.Stop.{Stop}
use Rattle.cdf.proofs.Laws.Refusals.{refused}
use Rattle.cdf.specs.Step.{Step, got, stop, bind, given_or, Leaves}
use Rattle.cdf.proofs.Laws.Step.{by-got, by-stop}
use Rattle.grammar.specs.declared.tables.Tables.{Tables}
use Rattle.header.specs.Header.{refusal, read_header, after_header, header_of}
use Rattle.header.specs.declared.reader.HeaderAnswer.{HeaderAnswer as Header}
use Rattle.header.proofs.Laws.Header.{after-refused, after_read}
use Rattle.crossing.specs.Words.{stored, loaded}
use Rattle.writer.specs.Writes.{write_header, length_of}
use Rattle.outputs.specs.Outputs.{TellsList}
use Rattle.exports.specs.Reader.{admitted, header_words, of_tables}
use Rattle.outputs.proofs.Laws.Numbers.{number-stops, number-gives, stored-numbered, write-numbered}
use Rattle.outputs.proofs.Laws.Outputs.{list-is}

-- ---- tables that are handed in
module _ {A : Type 0} (s : List ℕ) (f : Tables → Step A) where
  pub load-stop : {k : ℕ} → stop k 0 ≡ loaded s → stop k 0 ≡ of_tables s f
  load-stop e = by-stop _ e

  pub load-got : {t : Tables} → got t 0 ≡ loaded s → f t ≡ of_tables s f
  load-got e = by-got _ _ e refl

-- ---- a header's tables
module _ (s : List ℕ) (size versions : ℕ) (out : List ℕ) (end : ℕ) where
  -- what is left of an accepted header
  rest : Header → Step (List ℕ)
  rest x = bind (stored x.tables out) (λ o _. got o x.end)

  moved : {h : Header} → h ≡ read_header s size (admitted versions) → after_header h rest ≡ header_words s size versions out
  unfolding header_words rest
  moved is = ap (λ (x : Header). after_header x rest) is

  pub header_refused : (k : Stop) → header_of (Err k) ≡ read_header s size (admitted versions) → TellsList (header_words s size versions out) (number k.why) out out end end
  unfolding refusal
  header_refused k is = list-is out end refl (after-refused (header_of (Err k)) rest (refused k.why) ∙ moved is)

  module _ {h : Header} (is : h ≡ read_header s size (admitted versions)) (accepted : h.number ≡ 0) {k : ℕ} {new : List ℕ} (left : Leaves out (stored h.tables out) k new) where
    pub header-full : (k ≡ 0 → ⊥) → TellsList (header_words s size versions out) k out new end end
    unfolding rest
    header-full n =
        number-stops (stored h.tables out) left.0 n (λ p e.
        list-is out end (left.1 ∙ ap (given_or out) (sym e)) (by-stop _ e ∙ after_read h rest accepted ∙ moved is))

    pub header-told : k ≡ 0 → TellsList (header_words s size versions out) 0 out new end h.end
    unfolding rest
    header-told z =
        number-gives (stored h.tables out) (stored-numbered h.tables out) left.0 z (λ o n e.
        list-is out end refl (by-got _ _ (ap (λ (x : List ℕ). got x n) (left.1 ∙ ap (given_or out) (sym e)) ∙ e) refl ∙ after_read h rest accepted ∙ moved is))

-- ---- a header that is written
module _ (s text out : List ℕ) (length : ℕ) {t : Tables} (loads : got t 0 ≡ loaded s) {k : ℕ} {new : List ℕ} (left : Leaves out (write_header text t out) k new) where
  pub write-refused : (k ≡ 0 → ⊥) → TellsList (of_tables s (λ t. write_header text t out)) k out new length length
  write-refused z =
      number-stops (write_header text t out) left.0 z (λ p e.
      list-is out length (left.1 ∙ ap (given_or out) (sym e)) (e ∙ load-got s (λ t. write_header text t out) loads))

  pub write-told : {n : ℕ} → k ≡ 0 → n ≡ length_of (write_header text t out) → TellsList (of_tables s (λ t. write_header text t out)) 0 out new length n
  write-told {n} z l =
      number-gives (write_header text t out) (write-numbered text t out) left.0 z (λ o m e.
      let new_is : new ≡ o = left.1 ∙ ap (given_or out) (sym e) in
      let n-is : n ≡ m = l ∙ ap length_of (sym e) in
      list-is out length refl (ap (λ (x : List ℕ). got x n) new_is ∙ ap (got o) n-is ∙ e ∙ load-got s (λ t. write_header text t out) loads))
