-- The bytes of what a header says are derived by the rules.
use Prim.Native.Nat.{ℕ}
use mathlib.Core.Path.{◌≡◌, refl, ap, subst}
use mathlib.Core.Logic.{◌⊎◌, ⊎_elim}
use mathlib.Core.List.{List, [], ◌∷◌, ◌++◌, append_assoc}
use lib.ListN.{length, replicate}
use Rattle.cdf.specs.Form.{Form, form}
use Rattle.cdf.specs.Padding.{padding}
use Rattle.grammar.specs.Meaning.{Dimension, Attribute, Variable, Contents}
use Rattle.rules.proofs.Laws.Views.{EachIs, IsWord, IsOpenWord, IsText, DimInRange, AttrInRange, VarInRange, InRange}
use Rattle.rules.specs.Encode.{padded_out, each, list_bytes, name_bytes, dim_bytes, attr_bytes, var_bytes, encode}
use Rattle.rules.specs.Rules.{spelled, NonNeg, non_neg, Numrecs, known, streaming, Offset, int, int64, nulls, Padded, bytes, Name, name, nc_type, Sequence, none, more, Listed, absent, tagged, Dim, dim, Attr, attr, Var, var, classic, offset64, Header, header}
use Rattle.rules.proofs.Laws.Sound.{width_of}

padded-derived : (b u : List ℕ) → Padded b (padded_out b ++ u) u
unfolding padded_out
padded-derived b u = bytes (append_assoc b (replicate (padding (length b)) 0) u) (nulls refl)

-- the items of a list, each of which is derived where it is in range
sequence-derived : {A : Type 0} (g : A → List ℕ) (P : A → Type 0) (R : List ℕ → List ℕ → A → Type 0) → ((x : A) (u : List ℕ) → P x → R (g x ++ u) u x) → (xs : List A) (u : List ℕ) → EachIs P xs → Sequence R (each g xs ++ u) u xs
unfolding each
sequence-derived g P R h [] u k = none u
sequence-derived g P R h (x ∷ xs) u k =
    let d : R (g x ++ each g xs ++ u) (each g xs ++ u) x = rw (append_assoc (g x) (each g xs) u) (h x (each g xs ++ u) k.0) in
    more d (sequence-derived g P R h xs u k.1)

module _ (f : Form) where
  listed-derived : {A : Type 0} (tag : ℕ) (g : A → List ℕ) (P : A → Type 0) (R : List ℕ → List ℕ → A → Type 0) → ((x : A) (u : List ℕ) → P x → R (g x ++ u) u x)
      → (xs : List A) (u : List ℕ) → IsWord f (length xs) → EachIs P xs → Listed f tag R (list_bytes f tag g xs ++ u) u xs
  unfolding list_bytes
  listed-derived tag g P R h [] u l k = absent refl refl
  listed-derived tag g P R h (x ∷ xs) u l k = tagged refl (non_neg l (append_assoc (spelled f.word_bytes (length (x ∷ xs))) (each g (x ∷ xs)) u)) (sequence-derived g P R h (x ∷ xs) u k)

  open-derived : (n : ℕ) (u : List ℕ) → IsOpenWord f n → Numrecs f.word_bytes (spelled f.word_bytes n ++ u) u n
  open-derived n u = ⊎_elim (λ (h : IsWord f n). known (non_neg h refl)) (λ h. streaming h refl)

  name-derived : (n u : List ℕ) → IsText f n → Name f (name_bytes f n ++ u) u n
  unfolding name_bytes
  name-derived n u k = name (non_neg k.0 (append_assoc (spelled f.word_bytes (length n)) (padded_out n) u)) k.1 (padded-derived n u)

  dim-derived : (d : Dimension) (u : List ℕ) → DimInRange f d → Dim f (dim_bytes f d ++ u) u d
  unfolding dim_bytes
  dim-derived d u k =
      let w = spelled f.word_bytes d.extent in
      dim {t = w ++ u} (rw (append_assoc (name_bytes f d.name) w u) (name-derived d.name (w ++ u) k.0)) (non_neg k.1 refl)

  attr-derived : (a : Attribute) (u : List ℕ) → AttrInRange f a → Attr f (attr_bytes f a ++ u) u a
  unfolding attr_bytes
  attr-derived a u k =
      let z = padded_out a.values in
      let y = spelled f.word_bytes a.count ++ z in
      let x = spelled 4 a.code ++ y in
      attr {p = x ++ u} {q = y ++ u} {r = z ++ u} (rw (append_assoc (name_bytes f a.name) x u) (name-derived a.name (x ++ u) k.name))
      (nc_type k.code.0 k.code.1 (append_assoc (spelled 4 a.code) y u))
      (non_neg k.count (append_assoc (spelled f.word_bytes a.count) z u)) k.values (padded-derived a.values u)

  begin-derived : (n : ℕ) (u : List ℕ) → (f.begin_bytes ≡ 4) ⊎ (f.begin_bytes ≡ 8) → NonNeg f.begin_bytes (spelled f.begin_bytes n ++ u) u n → Offset f (spelled f.begin_bytes n ++ u) u n
  begin-derived n u h d = ⊎_elim (λ (w : f.begin_bytes ≡ 4). int w (subst (λ (k : ℕ). NonNeg k (spelled f.begin_bytes n ++ u) u n) w d)) (λ (w : f.begin_bytes ≡ 8). int64 w (subst (λ (k : ℕ). NonNeg k (spelled f.begin_bytes n ++ u) u n) w d)) h

  var-derived : (f.begin_bytes ≡ 4) ⊎ (f.begin_bytes ≡ 8) → (v : Variable) (u : List ℕ) → VarInRange f v → Var f (var_bytes f v ++ u) u v
  unfolding var_bytes
  var-derived h v u k =
      let w = f.word_bytes in
      let a = spelled f.begin_bytes v.begin in
      let b = spelled w v.vsize ++ a in
      let c = spelled 4 v.code ++ b in
      let l = list_bytes f 0x0C (attr_bytes f) v.attributes in
      let d = l ++ c in
      let e = each (spelled w) v.ids ++ d in
      let g = spelled w (length v.ids) ++ e in
      var {p = g ++ u} {q = e ++ u} {r = d ++ u} {t = c ++ u} {w = b ++ u} {x = a ++ u} (rw (append_assoc (name_bytes f v.name) g u) (name-derived v.name (g ++ u) k.name))
      (non_neg k.rank (append_assoc (spelled w (length v.ids)) e u))
      (rw (append_assoc (each (spelled w) v.ids) d u) (sequence-derived (spelled w) (IsWord f) (NonNeg w) (λ x u p. non_neg p refl) v.ids (d ++ u) k.ids))
      (rw (append_assoc l c u) (listed-derived 0x0C (attr_bytes f) (AttrInRange f) (Attr f) attr-derived v.attributes (c ++ u) k.attributes.0 k.attributes.1))
      (nc_type k.code.0 k.code.1 (append_assoc (spelled 4 v.code) b u))
      (rw (append_assoc (spelled w v.vsize) a u) (open-derived v.vsize (a ++ u) k.vsize))
      (begin-derived v.begin u h (non_neg k.begin refl))

-- what is in range is derived from its bytes
pub encode-derived : (m : Contents) (u : List ℕ) → InRange m → Header (encode m ++ u) u m
unfolding encode
encode-derived m u k =
    let f = form m.version in
    let vs = list_bytes f 0x0B (var_bytes f) m.variables in
    let gs = list_bytes f 0x0C (attr_bytes f) m.globals ++ vs in
    let ds = list_bytes f 0x0A (dim_bytes f) m.dimensions ++ gs in
    let w = spelled f.word_bytes m.word ++ ds in
    header {p = w ++ u} {q = ds ++ u} {r = gs ++ u} {t = vs ++ u}
    (⊎_elim (λ (e : m.version ≡ 1). classic e (ap (λ (v : ℕ). 0x43 ∷ 0x44 ∷ 0x46 ∷ v ∷ (w ++ u)) e)) (λ (e : m.version ≡ 2). offset64 e (ap (λ (v : ℕ). 0x43 ∷ 0x44 ∷ 0x46 ∷ v ∷ (w ++ u)) e)) k.version)
    (rw (append_assoc (spelled f.word_bytes m.word) ds u) (open-derived f m.word (ds ++ u) k.word))
    (rw (append_assoc (list_bytes f 0x0A (dim_bytes f) m.dimensions) gs u) (listed-derived f 0x0A (dim_bytes f) (DimInRange f) (Dim f) (dim-derived f) m.dimensions (gs ++ u) k.dims k.dimensions))
    (rw (append_assoc (list_bytes f 0x0C (attr_bytes f) m.globals) vs u) (listed-derived f 0x0C (attr_bytes f) (AttrInRange f) (Attr f) (attr-derived f) m.globals (vs ++ u) k.globals.0 k.globals.1))
    (listed-derived f 0x0B (var_bytes f) (VarInRange f) (Var f) (var-derived f (width_of m.version)) m.variables u k.vars k.variables)
