-- How an answer crosses to another language: its number is returned, and what it gives goes to the caller's outputs.
use Rattle.std.specs.Prelude.{ℕ, ◌≡◌, List}
use Rattle.cdf.specs.Step.{Step, got, stop, number_of}
use Rattle.model.specs.declared.names.Span.{Span}
use Rattle.convert.specs.Convert.{New}
use Rattle.reads.specs.declared.bits.Bits.{Bits}
use Rattle.guest32.specs.declared.guest.Guest.{Guest}

-- a part of what an answer gives, or of its place, where it gives any; else what stood there before
abbrev pub part_or : {A B : Type 0} → B → (A → ℕ → B) → Step A → B
part_or old part (got x n) = part x n
part_or old part (stop _ _) = old

-- the contract of one output among others: it stood at `old` and is `new`. 01: "all outputs stay untouched" in a refusal
abbrev pub Gets : {A B : Type 0} → Step A → (A → ℕ → B) → B → B → Type 0
Gets y part old new = new ≡ part_or old part y

-- each contract: what is to be answered, the number, and every output before and after. A list and its place: the tables and the header's end,
-- or a header's bytes and its length
abbrev pub TellsList : Step (List ℕ) → ℕ → List ℕ → List ℕ → ℕ → ℕ → Type 0
TellsList y k out out' place place' = (k ≡ number_of y) × Gets y (λ x _. x) out out' × Gets y (λ _ n. n) place place'

-- a variable's number
abbrev pub TellsNumber : Step ℕ → ℕ → ℕ → ℕ → Type 0
TellsNumber y k number number' = (k ≡ number_of y) × Gets y (λ x _. x) number number'

-- a name: where it starts, how many bytes it has
abbrev pub TellsName : Step Span → ℕ → ℕ → ℕ → ℕ → ℕ → Type 0
TellsName y k at at' chars chars' = (k ≡ number_of y) × Gets y (λ x _. x.at) at at' × Gets y (λ x _. x.chars) chars chars'

-- an element: the code of its type, its bits
abbrev pub TellsElement : Step Bits → ℕ → ℕ → ℕ → ℕ → ℕ → Type 0
TellsElement y k code code' bits bits' = (k ≡ number_of y) × Gets y (λ x _. x.code) code code' × Gets y (λ x _. x.bits) bits bits'

-- a converted header: its bytes, its length, the file's new size
abbrev pub TellsConverted : Step New → ℕ → List ℕ → List ℕ → ℕ → ℕ → ℕ → ℕ → Type 0
TellsConverted y k out out' length length' size size' =
    (k ≡ number_of y) × Gets y (λ x _. x.output) out out' × Gets y (λ _ n. n) length length' × Gets y (λ x _. x.size) size size'

-- what a 32-bit build makes of a file: the number of its error, the records, the first from elsewhere, the first variable cut short
abbrev pub TellsGuest : Step Guest → ℕ → ℕ → ℕ → ℕ → ℕ → ℕ → ℕ → ℕ → ℕ → Type 0
TellsGuest y k error error' records records' foreign foreign' cut cut' =
    (k ≡ number_of y) × Gets y (λ x _. x.number) error error' × Gets y (λ x _. x.records) records records' × Gets y (λ x _. x.foreign) foreign foreign'
    × Gets y (λ x _. x.cut) cut cut'
