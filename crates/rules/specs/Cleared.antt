-- Which tags a header loses when it is written anew (01, Header grammar: "A count of zero after a tag is accepted"; Widening and narrowing: "writes every empty list as
-- eight zero bytes"): those of lists that carry their tag with count zero. Their places are read off a derivation of the bytes.
use Rattle.std.specs.Prelude.{ℕ, suc, ◌-◌, List, [], ◌∷◌, ◌++◌, length, set}
use Rattle.cdf.specs.Form.{Form}
use Rattle.grammar.specs.Meaning.{Variable, Contents}
use Rattle.rules.specs.Rules.{Sequence, none, more, Listed, absent, tagged, Var, var, Header, header}

-- such tags inside the items of a list
unfoldable pub in_items : {A : Type 0} {R : List ℕ → List ℕ → A → Type 0} {s u : List ℕ} {xs : List A} → ((s u : List ℕ) (x : A) → R s u x → List ℕ) → Sequence R s u xs → List ℕ
in_items g (none _) = []
in_items g (more {s = s} {t = t} {x = x} d q) = g s t x d ++ in_items g q

-- of a list with its tag: where there is no item, the place of the tag's last byte; else those inside the items
unfoldable pub of_tagged : {A : Type 0} {R : List ℕ → List ℕ → A → Type 0} {s u : List ℕ} {xs : List A} → ℕ → ((s u : List ℕ) (x : A) → R s u x → List ℕ) → Sequence R s u xs → List ℕ
of_tagged place g (none _) = place ∷ []
of_tagged place g (more {s = s} {t = t} {x = x} d q) = g s t x d ++ in_items g q

-- of a list at the end of n bytes: the tag's last byte stands before the bytes t that follow it
unfoldable pub of_list : {A : Type 0} {f : Form} {tag : ℕ} {R : List ℕ → List ℕ → A → Type 0} {s u : List ℕ} {xs : List A} → ℕ → ((s u : List ℕ) (x : A) → R s u x → List ℕ) → Listed f tag R s u xs → List ℕ
of_list n g (absent _ _) = []
of_list n g (tagged {t = t} _ _ q) = of_tagged (n - suc (length t)) g q

-- a variable has its attributes, which have no list inside
unfoldable pub of_var : {f : Form} → ℕ → (s u : List ℕ) (v : Variable) → Var f s u v → List ℕ
of_var n s u v (var _ _ _ xs _ _ _) = of_list n (λ _ _ _ _. []) xs

-- the places of such tags in a header of n bytes, from left to right
unfoldable pub empty_tags : {s u : List ℕ} {m : Contents} → ℕ → Header s u m → List ℕ
empty_tags n (header _ _ ds gs vs) = of_list n (λ _ _ _ _. []) ds ++ (of_list n (λ _ _ _ _. []) gs ++ of_list n (of_var n) vs)

-- the bytes s with zeros at places
unfoldable pub cleared : List ℕ → List ℕ → List ℕ
cleared [] s = s
cleared (p ∷ ps) s = cleared ps (set s p 0)
