-- Laws of [entity ...], and of conditions on every item.
use Prim.Native.Nat.{ℕ, suc, ◌<◌}
use native.Mathlib.Omega.{arith}
use mathlib.Core.Path.{◌≡◌, refl}
use mathlib.Core.List.{List, [], ◌∷◌, map}
use lib.ListN.{length, get_or}
use Rattle.cdf.specs.Form.{Form}
use Rattle.rules.proofs.Laws.Views.{EachIs}
use Rattle.rules.specs.Rules.{Sequence, none, more, Listed, absent, tagged}

pub all_of : {A : Type 0} (P : A → Type 0) (d : A) (xs : List A) → ((i : ℕ) → i < length xs → P (get_or xs i d)) → EachIs P xs
all_of P d [] h = tt
all_of P d (x ∷ xs) h = (h 0 (omega arith), all_of P d xs (λ i l. h (suc i) (omega arith)))

module _ {A : Type 0} where
  pub none-same : {R : List ℕ → List ℕ → A → Type 0} {s u : List ℕ} → Sequence R s u [] → s ≡ u
  none-same (none s) = refl

  -- items that are so where a condition holds, and it does
  pub sequence-where : (P : A → Type 0) (R : List ℕ → List ℕ → A → Type 0) {s u : List ℕ} {xs : List A} → Sequence (λ s u x. P x → R s u x) s u xs → EachIs P xs → Sequence R s u xs
  sequence-where P R (none s) a = none s
  sequence-where P R (more h q) a = more (h a.0) (sequence-where P R q a.1)

  -- items seen through a function
  pub sequence-map : {B : Type 0} (g : A → B) (R : List ℕ → List ℕ → B → Type 0) {s u : List ℕ} {xs : List A} → Sequence (λ s u x. R s u (g x)) s u xs → Sequence R s u (map g xs)
  sequence-map g R (none s) = none s
  sequence-map g R (more h q) = more h (sequence-map g R q)

-- a list of items that are so where a condition holds, and it does
pub listed-where : {A : Type 0} {s u : List ℕ} {xs : List A} (f : Form) (tag : ℕ) (P : A → Type 0) (R : List ℕ → List ℕ → A → Type 0)
    → Listed f tag (λ s u x. P x → R s u x) s u xs → EachIs P xs → Listed f tag R s u xs
listed-where f tag P R (absent e h) a = absent e h
listed-where f tag P R (tagged e h q) a = tagged e h (sequence-where P R q a)
