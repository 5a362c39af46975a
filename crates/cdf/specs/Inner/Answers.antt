-- What the answers of the functions that read a header mean, as steps.
use Rattle.std.specs.Prelude.{ℕ, ◌+◌, List, ◌≡◌, Result, Ok, Err, IfOk}
use Rattle.cdf.specs.Step.{Step, got, stop, at_hand}
use Rattle.cdf.specs.Refusals.{number}
use Rattle.cdf.specs.declared.place.Place.{Place}
use Rattle.cdf.specs.declared.refusal.Stop.{Stop}

-- of a function that passes over bytes, with what they give
abbrev pub passed : {A : Type 0} → A → Result Place Stop → Step A
passed x (Ok p) = got x p.at
passed x (Err r) = stop (number r.why) r.place

-- of a function that reads something, seen through a function
abbrev pub read : {A B : Type 0} → (A → B) → Result (A × Place) Stop → Step B
read g (Ok (x, p)) = got (g x) p.at
read g (Err r) = stop (number r.why) r.place

-- a place of the same bytes
abbrev pub Along : Place → Place → Type 0
Along p q = (q.bytes ≡ p.bytes) × (q.size ≡ p.size)

-- the contract of a function that fills in x: from the place p it takes the step f
abbrev pub Fills : {A : Type 0} → Place → A → (List ℕ → ℕ → ℕ → Step A) → Result Place Stop → Type 0
Fills p x f r = (passed x r ≡ f p.bytes.now p.size p.at) × IfOk r (λ q. Along p q)

-- the contract of a function that passes over bytes
abbrev pub Passes : Place → (List ℕ → ℕ → ℕ → Step Unit) → Result Place Stop → Type 0
Passes p f r = Fills p tt f r

-- the contract of a function that reads something which means what g makes of it
abbrev pub Reads : {A B : Type 0} → (A → B) → Place → (List ℕ → ℕ → ℕ → Step B) → Result (A × Place) Stop → Type 0
Reads g p f r = (read g r ≡ f p.bytes.now p.size p.at) × IfOk r (λ x. Along p x.1)

-- the contract of a function that reads what the step gives
abbrev pub Steps : {A : Type 0} → Place → (List ℕ → ℕ → ℕ → Step A) → Result (A × Place) Stop → Type 0
Steps p f r = Reads (λ x. x) p f r

-- the step over n bytes, whatever they are
abbrev pub over : ℕ → List ℕ → ℕ → ℕ → Step Unit
over n s size at = at_hand s size at n (got tt (at + n))
