-- Two conforming answers coincide.
use mathlib.Core.Path.{◌≡◌, refl, sym, ap, ◌∙◌}
use Rattle.std.specs.Prelude.{Result, Ok, Err}
use Rattle.cdf.specs.Refusals.{answered}
use Rattle.cdf.specs.declared.refusal.Refusal.{Refusal}
use Rattle.cdf.specs.declared.refusal.Stop.{Stop}
use Rattle.cdf.proofs.Laws.Refusals.{refused, same-number, same_result}
use Rattle.header.specs.Header.{refusal, header_of}
use Rattle.header.specs.declared.reader.HeaderAnswer.{HeaderAnswer as Header}
use Rattle.header.specs.declared.reader.Header.{Header as Read}
use Rattle.writer.specs.Writes.{length_told}
use Rattle.convert.specs.Convert.{converted_of}
use Rattle.convert.specs.declared.convert.ConvertedAnswer.{ConvertedAnswer as Converted}
use Rattle.convert.specs.declared.convert.Converted.{Converted as Made}
use Prim.Native.Nat.{ℕ}
use Rattle.demands.specs.Determined.{HeaderDetermined, OutputsDetermined, ReadsDetermined, ResultsDetermined, FoundDetermined, GuestDetermined, ElementsDetermined, LoadsDetermined, PartsDetermined, LookupsDetermined, NumbersDetermined, WriterDetermined, ConversionDetermined}

-- a result that gives nothing is told whole by the number that it answers
same_answer : (r q : Result Unit Refusal) → answered r ≡ answered q → r ≡ q
same_answer (Ok x) (Ok y) e = refl
same_answer (Ok x) (Err l) e = absurd (refused l (sym e))
same_answer (Err k) (Ok y) e = absurd (refused k e)
same_answer (Err k) (Err l) e = ap (λ z. Err z) (same-number k l e)

-- what a header's result tells is all of it
header-same : (r q : Result Read Stop) → header_of r ≡ header_of q → r ≡ q
unfolding refusal
header-same (Ok x) (Ok y) e = λ i. Ok (record { end = (e i).end; tables = (e i).tables })
header-same (Ok x) (Err l) e = absurd (refused l.why (sym (ap (λ (h : Header). h.number) e)))
header-same (Err k) (Ok y) e = absurd (refused k.why (ap (λ (h : Header). h.number) e))
header-same (Err k) (Err l) e = let f = same-number k.why l.why (ap (λ (h : Header). h.number) e) in λ i. Err (record { why = f i; place = (e i).place })

pub header-determined : HeaderDetermined
unfolding HeaderDetermined
header-determined s size a h h' e f = header-same h h' (e ∙ sym f)

pub outputs-determined : OutputsDetermined
unfolding OutputsDetermined
outputs-determined A out y k k' new new' p q = (p.0 ∙ sym q.0, p.1 ∙ sym q.1)

pub guest-determined : GuestDetermined
unfolding GuestDetermined
guest-determined y x x' p q = same_result x x' (p ∙ sym q)

pub reads-determined : ReadsDetermined
unfolding ReadsDetermined
reads-determined A out y r r' new new' p q = (same_answer r r' (p.0 ∙ sym q.0), p.1 ∙ sym q.1)

pub results-determined : ResultsDetermined
unfolding ResultsDetermined
results-determined A y x x' p q = same_result x x' (p ∙ sym q)

pub found-determined : FoundDetermined
unfolding FoundDetermined
found-determined y x x' p q = same_result x x' (p ∙ sym q)

pub elements-determined : ElementsDetermined
unfolding ElementsDetermined
elements-determined = (λ y x x' p q. same_result x x' (p ∙ sym q), λ y x x' p q. same_result x x' (p ∙ sym q))

pub loads-determined : LoadsDetermined
unfolding LoadsDetermined
loads-determined s r r' p q = same_result r r' (p ∙ sym q)

pub parts-determined : PartsDetermined
unfolding PartsDetermined
parts-determined A B y part old new new' p q = p ∙ sym q

pub lookups-determined : LookupsDetermined
unfolding LookupsDetermined
lookups-determined = (
  λ y f f' p q. same_result f f' (p ∙ sym q),
  λ y r r' p q. same_result r r' (p ∙ sym q),
  λ b t i r r' p q. (p.block ∙ sym q.block, p.start ∙ sym q.start, p.bytes ∙ sym q.bytes),
)

pub numbers-determined : NumbersDetermined
unfolding NumbersDetermined
numbers-determined n k k' e f = e ∙ sym f

-- and so of the writer's, and of a conversion's
written-same : (r q : Result ℕ Refusal) → answered r ≡ answered q → length_told r ≡ length_told q → r ≡ q
written-same (Ok x) (Ok y) e f = ap (λ (n : ℕ). Ok n) f
written-same (Ok x) (Err l) e f = absurd (refused l (sym e))
written-same (Err k) (Ok y) e f = absurd (refused k e)
written-same (Err k) (Err l) e f = ap (λ (j : Refusal). Err j) (same-number k l e)

converted-same : (r q : Result Made Stop) → converted_of r ≡ converted_of q → r ≡ q
converted-same (Ok x) (Ok y) e = λ i. Ok (record { length = (e i).new_length; size = (e i).size })
converted-same (Ok x) (Err l) e = absurd (refused l.why (sym (ap (λ (c : Converted). c.number) e)))
converted-same (Err k) (Ok y) e = absurd (refused k.why (ap (λ (c : Converted). c.number) e))
converted-same (Err k) (Err l) e = let f = same-number k.why l.why (ap (λ (c : Converted). c.number) e) in λ i. Err (record { why = f i; place = (e i).place })

pub writer-determined : WriterDetermined
unfolding WriterDetermined
writer-determined out y r r' new new' p q = (written-same r r' (p.0.0 ∙ sym q.0.0) (p.1 ∙ sym q.1), p.0.1 ∙ sym q.0.1)

pub conversion-determined : ConversionDetermined
unfolding ConversionDetermined
conversion-determined out y r r' new new' p q = (converted-same r r' (p.0 ∙ sym q.0), p.1 ∙ sym q.1)
