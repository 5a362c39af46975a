-- What is derived is in range.
use Prim.Native.Nat.{ℕ, ◌<◌}
use native.Mathlib.Omega.{arith}
use mathlib.Core.Path.{◌≡◌, sym, subst}
use mathlib.Core.Logic.{◌⊎◌, inl, inr}
use mathlib.Core.List.{List, [], ◌∷◌}
use lib.ListN.{length}
use Rattle.bigendian.specs.Number.{half}
use Rattle.cdf.specs.Form.{Form, form}
use Rattle.grammar.specs.Meaning.{Dimension, Attribute, Variable, Contents}
use Rattle.rules.proofs.Laws.Views.{EachIs, IsWord, IsOpenWord, IsCode, IsText, DimInRange, AttrInRange, VarInRange, InRange}
use Rattle.rules.specs.Rules.{NonNeg, non_neg, Numrecs, known, streaming, Offset, int, int64, Name, name, NcType, nc_type, Sequence, more, Listed, absent, tagged, Dim, dim, Attr, attr, Var, var, Magic, classic, offset64, Header, header}

word-range : {k n : ℕ} {s u : List ℕ} → NonNeg k s u n → n < half k
word-range (non_neg h e) = h

each-range : {A : Type 0} {R : List ℕ → List ℕ → A → Type 0} {s u : List ℕ} (P : A → Type 0) → ((s u : List ℕ) (x : A) → R s u x → P x) → (xs : List A) → Sequence R s u xs → EachIs P xs
each-range P h [] q = tt
each-range P h (x ∷ xs) (more {s = s} {t = t} d q) = (h s t x d, each-range P h xs q)

module _ (f : Form) (pos : 0 < half f.word_bytes) where
  open-range : {n : ℕ} {s u : List ℕ} → Numrecs f.word_bytes s u n → IsOpenWord f n
  open-range (known d) = inl (word-range d)
  open-range (streaming h e) = inr h

  name-range : {s u n : List ℕ} → Name f s u n → IsText f n
  name-range (name c v p) = (word-range c, v)

  list-range : {A : Type 0} {R : List ℕ → List ℕ → A → Type 0} {s u : List ℕ} (tag : ℕ) (P : A → Type 0) → ((s u : List ℕ) (x : A) → R s u x → P x) → (xs : List A) → Listed f tag R s u xs → IsWord f (length xs) × EachIs P xs
  list-range {A} tag P h xs (absent z e) = subst (λ (l : List A). IsWord f (length l) × EachIs P l) (sym z) (pos, tt)
  list-range tag P h xs (tagged e d q) = (word-range d, each-range P h xs q)

  dim-range : (s u : List ℕ) (d : Dimension) → Dim f s u d → DimInRange f d
  dim-range s u d (dim n e) = (name-range n, word-range e)

  code-range : {s u : List ℕ} {c : ℕ} → NcType f s u c → IsCode f c
  code-range (nc_type l h e) = (l, h)

  attr-range : (s u : List ℕ) (a : Attribute) → Attr f s u a → AttrInRange f a
  attr-range s u a (attr n t c l v) = record { name = name-range n; code = code-range t; count = word-range c; values = l }

  begin-range : {s u : List ℕ} {n : ℕ} → Offset f s u n → n < half f.begin_bytes
  begin-range (int w d) = rw w (word-range d)
  begin-range (int64 w d) = rw w (word-range d)

  var-range : (s u : List ℕ) (v : Variable) → Var f s u v → VarInRange f v
  var-range s u v (var n c is xs k z o) =
      let l = list-range 0x0C (AttrInRange f) attr-range v.attributes xs in
      record { name = name-range n; rank = word-range c; ids = each-range (IsWord f) (λ s u x d. word-range d) v.ids is; attributes = l; code = code-range k; vsize = open-range z; begin = begin-range o }

version-range : {s u : List ℕ} {v : ℕ} → Magic s u v → (v ≡ 1) ⊎ (v ≡ 2)
version-range (classic e h) = inl e
version-range (offset64 e h) = inr e

pub header-range : (s u : List ℕ) (m : Contents) → Header s u m → InRange m
header-range s u m (header g w ds gs vs) =
    let f = form m.version in
    let pos : 0 < half f.word_bytes = omega arith in
    let a = list-range f pos 0x0A (DimInRange f) (dim-range f pos) m.dimensions ds in
    let b = list-range f pos 0x0C (AttrInRange f) (attr-range f pos) m.globals gs in
    let c = list-range f pos 0x0B (VarInRange f) (var-range f pos) m.variables vs in
    record { version = version-range g; word = open-range f pos w; dims = a.0; dimensions = a.1; globals = b; vars = c.0; variables = c.1 }
