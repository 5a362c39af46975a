-- A step of the grammar, taken at a place of the bytes (01, Answer numbers and Order). A definition that has no place of its own, as those of
-- the record count and of the reads, gives the place 0.
use Rattle.std.specs.Prelude.{ℕ, zero, suc, ◌+◌, Bool, true, false, cond, ◌≡◌, List, [], ◌∷◌, ◌++◌, length, ltb, leb}

-- the value that was read and the place after it, or a refusal's number and its place
pub data Step (A : Type 0) : Type 0 where
  got : A → ℕ → Step A
  stop : ℕ → ℕ → Step A

-- one step after the other, from left to right: the first refusal is the answer
unfoldable pub bind : {A B : Type 0} → Step A → (A → ℕ → Step B) → Step B
bind (got a n) f = f a n
bind (stop k p) f = stop k p

-- a check: the first where it holds, the second where it does not
unfoldable pub test : {A : Type 0} → Bool → Step A → Step A → Step A
test true x y = x
test false x y = y

-- where a condition does not hold, that is the answer; else what follows it
abbrev pub unless : {A : Type 0} → Bool → Step A → Step A → Step A
unless b x rest = test b rest x

-- a rule: where it does not hold, the refusal of its number and place; else what follows it
abbrev pub need : {A : Type 0} → Bool → ℕ → ℕ → Step A → Step A
need b number place rest = unless b (stop number place) rest

-- 01, numbers 1 and 2: more bytes are wanted than the prefix s has; the place is the prefix length
unfoldable pub unfinished : {A : Type 0} → List ℕ → ℕ → Step A
unfinished s size = stop (cond (ltb (length s) size) 1 2) (length s)

-- the n bytes of s from a place are at hand, or the header is unfinished
abbrev pub at_hand : {A : Type 0} → List ℕ → ℕ → ℕ → ℕ → Step A → Step A
at_hand s size at n rest = unless (leb (at + n) (length s)) (unfinished s size) rest

-- the same step, what it gives seen through a function
unfoldable pub into : {A B : Type 0} → (A → B) → Step A → Step B
into g (got a n) = got (g a) n
into g (stop k p) = stop k p

-- n items, one after the other, after those of a list; what an item may be can depend on those before it
unfoldable pub items : {A : Type 0} → (List A → ℕ → Step A) → ℕ → List A → ℕ → Step (List A)
items f zero xs at = got xs at
items f (suc k) xs at = bind (f xs at) (λ x q. items f k (xs ++ (x ∷ [])) q)

-- the number that a step answers (01, number 0: "accepted")
abbrev pub number_of : {A : Type 0} → Step A → ℕ
number_of (got _ _) = 0
number_of (stop k _) = k

-- what a step gives, or d in a refusal
abbrev pub given_or : {A : Type 0} → A → Step A → A
given_or d (got x _) = x
given_or d (stop _ _) = d

-- the contract of a function that answers a number and has an output: where y is to be answered and `out` stood there, the number is k and the
-- output is `new`. 01: "all outputs stay untouched" in a refusal
abbrev pub Leaves : {A : Type 0} → List A → Step (List A) → ℕ → List A → Type 0
Leaves out y k new = (k ≡ number_of y) × (new ≡ given_or out y)
