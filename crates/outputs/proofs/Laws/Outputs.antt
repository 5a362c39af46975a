-- Laws of answers that cross.
use Prim.Native.Nat.{ℕ}
use mathlib.Core.Path.{◌≡◌, refl, sym, ap, ◌∙◌}
use mathlib.Core.List.{List}
use Rattle.cdf.specs.Step.{Step, got, stop, number_of, given_or, Leaves}
use Rattle.found.specs.declared.variable.Spread.{Spread}
use Rattle.reads.specs.declared.bits.Bits.{Bits}
use Rattle.guest32.specs.declared.guest.Guest.{Guest}
use Rattle.model.specs.declared.names.Span.{Span}
use Rattle.std.specs.Prelude.{Ok, Err}
use Rattle.cdf.specs.Refusals.{number}
use Rattle.cdf.specs.declared.refusal.Stop.{Stop}
use Rattle.cdf.proofs.Laws.Refusals.{refused}
use Rattle.convert.specs.Convert.{New, answer_of, output_or, converted_of}
use Rattle.convert.specs.declared.convert.ConvertedAnswer.{ConvertedAnswer as Converted}
use Rattle.convert.specs.declared.convert.Converted.{Converted as Made}
use Rattle.outputs.specs.Outputs.{part_or, Gets, TellsList, TellsNumber, TellsName, TellsElement, TellsConverted, TellsGuest}
use Rattle.outputs.proofs.Laws.Numbers.{Numbered}

-- what a read leaves of a variable that was found, found otherwise
pub of-found : {A : Type 0} (out : List A) {k : ℕ} {new : List A} {m n : Step Spread} (f : Step Spread → Step (List A)) → m ≡ n → (k ≡ number_of (f m)) × (new ≡ given_or out (f m)) → Leaves out (f n) k new
of-found out f e p = (p.0 ∙ ap (λ (x : Step Spread). number_of (f x)) e, p.1 ∙ ap (λ (x : Step Spread). given_or out (f x)) e)

-- an output, by an answer z that is the one to be given: a refusal's stays, another's is a part of what is given
gets : {A B : Type 0} {z y : Step A} (part : A → ℕ → B) (old : B) → z ≡ y → Gets y part old (part_or old part z)
gets part old e = ap (part_or old part) e

pub element-is : {z y : Step Bits} (code bits : ℕ) → z ≡ y → TellsElement y (number_of z) code (part_or code (λ x _. x.code) z) bits (part_or bits (λ x _. x.bits) z)
element-is code bits e = (ap number_of e, gets _ code e, gets _ bits e)

pub number_is : {z y : Step ℕ} (number : ℕ) → z ≡ y → TellsNumber y (number_of z) number (part_or number (λ x _. x) z)
number_is number e = (ap number_of e, gets _ number e)

pub name-is : {z y : Step Span} (at chars : ℕ) → z ≡ y → TellsName y (number_of z) at (part_or at (λ x _. x.at) z) chars (part_or chars (λ x _. x.chars) z)
name-is at chars e = (ap number_of e, gets _ at e, gets _ chars e)

pub guest-is : {z y : Step Guest} (error records foreign cut : ℕ) → z ≡ y → TellsGuest y (number_of z) error (part_or error (λ x _. x.number) z) records (part_or records (λ x _. x.records) z) foreign (part_or foreign (λ x _. x.foreign) z) cut (part_or cut (λ x _. x.cut) z)
guest-is error records foreign cut e = (ap number_of e, gets _ error e, gets _ records e, gets _ foreign e, gets _ cut e)

pub list-is : {z y : Step (List ℕ)} {new : List ℕ} (out : List ℕ) (place : ℕ) → new ≡ part_or out (λ x _. x) z → z ≡ y → TellsList y (number_of z) out new place (part_or place (λ _ n. n) z)
list-is out place f e = (ap number_of e, f ∙ gets _ out e, gets _ place e)

-- a converted header, by its answer and its output
pub converted-refused : (y : Step New) (k : Stop) (out : List ℕ) {new : List ℕ} (length size : ℕ) → converted_of (Err k) ≡ answer_of y → new ≡ output_or out y → TellsConverted y (number k.why) out new length length size size
converted-refused (got x n) k out length size e f = absurd (refused k.why (ap (λ (r : Converted). r.number) e))
converted-refused (stop i p) k out length size e f = (ap (λ (r : Converted). r.number) e, f, refl, refl)

pub converted-told : (y : Step New) (r : Made) (out : List ℕ) {new : List ℕ} (length size : ℕ) → Numbered y → converted_of (Ok r) ≡ answer_of y → new ≡ output_or out y → TellsConverted y 0 out new length r.length size r.size
converted-told (got x n) r out length size m e f = (refl, f, ap (λ (r : Converted). r.new_length) e, ap (λ (r : Converted). r.size) e)
converted-told (stop k p) r out length size m e f = absurd (m (sym (ap (λ (r : Converted). r.number) e)))
