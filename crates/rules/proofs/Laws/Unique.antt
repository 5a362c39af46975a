-- The same bytes say one thing only, and end at one place.
use Prim.Native.Nat.{ℕ, ◌^◌, ◌≤◌, ◌<◌}
use native.Mathlib.Omega.{arith}
use mathlib.Core.Path.{◌≡◌, refl, ap, sym, ◌∙◌}
use mathlib.Core.List.{List, [], ◌∷◌, ◌++◌}
use lib.ListN.{length, get_or, replicate, length-replicate, get_or-replicate, get_or-append}
use Rattle.cdf.specs.Form.{Form, form}
use Rattle.cdf.specs.Padding.{padding}
use Rattle.rules.specs.Rules.{spelled, NonNeg, non_neg, Numrecs, known, streaming, Offset, int, int64, Padding, nulls, Padded, bytes, Name, name, NcType, nc_type, Sequence, none, more, Listed, absent, tagged, Dim, dim, Attr, attr, AttList, Var, var, Magic, classic, offset64, Header, header}
use Rattle.rules.proofs.Laws.Spelled.{half-fits, open-fits, spelled_same, same-front}

-- what two derivations of the same bytes have in common
abbrev pub Same : {A : Type 0} → List ℕ → List ℕ → A → A → Type 0
Same u u' x x' = (u ≡ u') × (x ≡ x')

-- and so for every two derivations of a rule
abbrev pub Unique : {A : Type 0} → (List ℕ → List ℕ → A → Type 0) → Type 0
Unique {A} R = (s u u' : List ℕ) (x x' : A) → R s u x → R s u' x' → Same u u' x x'

non_neg-unique : (k : ℕ) → Unique (NonNeg k)
non_neg-unique k s u u' n n' (non_neg h e) (non_neg h' e') = let l = half-fits k in let r = spelled_same k n n' u u' (omega arith) (omega arith) (sym e ∙ e') in (r.1, r.0)

numrecs-spelled : {k n : ℕ} {s u : List ℕ} → Numrecs k s u n → (n < 256 ^ k) × (s ≡ spelled k n ++ u)
numrecs-spelled {k} (known (non_neg h e)) = (let l = half-fits k in omega arith, e)
numrecs-spelled {k} (streaming o e) = (let l = open-fits k in omega arith, e)

numrecs-unique : (k : ℕ) → Unique (Numrecs k)
numrecs-unique k s u u' n n' d d' = let a = numrecs-spelled d in let b = numrecs-spelled d' in let r = spelled_same k n n' u u' a.0 b.0 (sym a.1 ∙ b.1) in (r.1, r.0)

offset-unique : (f : Form) → Unique (Offset f)
offset-unique f s u u' n n' (int w d) (int w' d') = non_neg-unique 4 s u u' n n' d d'
offset-unique f s u u' n n' (int w d) (int64 w' d') = absurd (omega arith)
offset-unique f s u u' n n' (int64 w d) (int w' d') = absurd (omega arith)
offset-unique f s u u' n n' (int64 w d) (int64 w' d') = non_neg-unique 8 s u u' n n' d d'

padding-unique : (n : ℕ) (s u u' : List ℕ) → Padding n s u → Padding n s u' → u ≡ u'
padding-unique n s u u' (nulls e) (nulls e') = (same-front (replicate (padding n) 0) (replicate (padding n) 0) u u' refl (sym e ∙ e')).1

padded-unique : (b b' s u u' : List ℕ) → length b ≡ length b' → Padded b s u → Padded b' s u' → Same u u' b b'
padded-unique b b' s u u' l (bytes {t} e p) (bytes {t = t'} e' p') =
    let r = same-front b b' t t' l (sym e ∙ e') in
    (padding-unique (length b) t u u' p (rw (l, r.1) p'), r.0)

module _ (f : Form) where
  name-unique : Unique (Name f)
  name-unique s u u' n n' (name {t} c v p) (name {t = t'} c' v' p') =
      let r = non_neg-unique f.word_bytes s t t' (length n) (length n') c c' in
      padded-unique n n' t u u' r.1 p (rw r.0 p')

  type-unique : f.codes < 4294967296 → Unique (NcType f)
  type-unique b s u u' n n' (nc_type l h e) (nc_type l' h' e') = let r = spelled_same 4 n n' u u' (omega arith) (omega arith) (sym e ∙ e') in (r.1, r.0)

sequence-unique : {A : Type 0} (R : List ℕ → List ℕ → A → Type 0) → Unique R → (s u u' : List ℕ) (xs xs' : List A) → length xs ≡ length xs' → Sequence R s u xs → Sequence R s u' xs' → Same u u' xs xs'
sequence-unique R h s u u' [] [] l (none _) (none _) = (refl, refl)
sequence-unique R h s u u' [] (x' ∷ xs') l d d' = absurd (omega arith)
sequence-unique R h s u u' (x ∷ xs) [] l d d' = absurd (omega arith)
sequence-unique {A} R h s u u' (x ∷ xs) (x' ∷ xs') l (more {t = t} d q) (more {t = t'} d' q') =
    let a = h s t t' x x' d d' in
    let r = sequence-unique R h t u u' xs xs' (omega arith) q (rw a.0 q') in
    (r.0, let e = a.1 in let g = r.1 in cc)

module _ (f : Form) (wide : 4 ≤ f.absent_bytes) where
  -- an absent list has no tag
  not-both : (u u' : List ℕ) (tag : ℕ) → 0 < tag → replicate f.absent_bytes 0 ++ u ≡ 0 ∷ 0 ∷ 0 ∷ tag ∷ u' → ⊥
  not-both u u' tag h e =
      let l = length-replicate {A = ℕ} f.absent_bytes 0 in
      let a = get_or-append (replicate f.absent_bytes 0) u 0 3 (omega arith) in
      let b = get_or-replicate {A = ℕ} f.absent_bytes 3 0 0 (omega arith) in
      let c : get_or (replicate f.absent_bytes 0 ++ u) 3 0 ≡ tag = ap (λ (l : List ℕ). get_or l 3 0) e in
      omega arith

  listed-unique : {A : Type 0} (tag : ℕ) (R : List ℕ → List ℕ → A → Type 0) → 0 < tag → Unique R → Unique (Listed f tag R)
  listed-unique tag R h k s u u' xs xs' (absent z e) (absent z' e') = ((same-front (replicate f.absent_bytes 0) (replicate f.absent_bytes 0) u u' refl (sym e ∙ e')).1, z ∙ sym z')
  listed-unique tag R h k s u u' xs xs' (absent z e) (tagged {t = t'} e' d' q') = absurd (not-both u t' tag h (sym e ∙ e'))
  listed-unique tag R h k s u u' xs xs' (tagged {t = t} e d q) (absent z' e') = absurd (not-both u' t tag h (sym e' ∙ e))
  listed-unique tag R h k s u u' xs xs' (tagged {t} {v} e d q) (tagged {t = t'} {v = v'} e' d' q') =
      let a = (same-front (0 ∷ 0 ∷ 0 ∷ tag ∷ []) (0 ∷ 0 ∷ 0 ∷ tag ∷ []) t t' refl (sym e ∙ e')).1 in
      let n = non_neg-unique f.word_bytes t v v' (length xs) (length xs') d (rw a d') in
      sequence-unique R k v u u' xs xs' n.1 q (rw n.0 q')

  module _ (few : f.codes < 4294967296) where
    dim-unique : Unique (Dim f)
    dim-unique s u u' x x' (dim {t} n e) (dim {t = t'} n' e') =
        let a = name-unique f s t t' x.name x'.name n n' in
        let b = non_neg-unique f.word_bytes t u u' x.extent x'.extent e (rw a.0 e') in
        (b.0, λ i. record { name = a.1 i; extent = b.1 i })

    attr-unique : Unique (Attr f)
    attr-unique s u u' x x' (attr {p} {q} {r} n t c l v) (attr {p = p'} {q = q'} {r = r'} n' t' c' l' v') =
        let a = name-unique f s p p' x.name x'.name n n' in
        let b = type-unique f few p q q' x.code x'.code t (rw a.0 t') in
        let d = non_neg-unique f.word_bytes q r r' x.count x'.count c (rw b.0 c') in
        let e = padded-unique x.values x'.values r u u' (rw (l, l', b.1, d.1)) v (rw d.0 v') in
        (e.0, λ i. record { name = a.1 i; code = b.1 i; count = d.1 i; values = e.1 i })

    attrs-unique : Unique (AttList f)
    attrs-unique = listed-unique 0x0C (Attr f) (omega arith) attr-unique

    var-unique : Unique (Var f)
    var-unique s u u' x x' (var {p} {q} {r} {t} {w} {x = y} n c is xs k z o) (var {p = p'} {q = q'} {r = r'} {t = t'} {w = w'} {x = y'} n' c' is' xs' k' z' o') =
        let a = name-unique f s p p' x.name x'.name n n' in
        let b = non_neg-unique f.word_bytes p q q' (length x.ids) (length x'.ids) c (rw a.0 c') in
        let d = sequence-unique (NonNeg f.word_bytes) (non_neg-unique f.word_bytes) q r r' x.ids x'.ids b.1 is (rw b.0 is') in
        let e = attrs-unique r t t' x.attributes x'.attributes xs (rw d.0 xs') in
        let g = type-unique f few t w w' x.code x'.code k (rw e.0 k') in
        let h = numrecs-unique f.word_bytes w y y' x.vsize x'.vsize z (rw g.0 z') in
        let j = offset-unique f y u u' x.begin x'.begin o (rw h.0 o') in
        (j.0, λ i. record { name = a.1 i; ids = d.1 i; attributes = e.1 i; code = g.1 i; vsize = h.1 i; begin = j.1 i })

magic-unique : Unique Magic
magic-unique s u u' v v' (classic w e) (classic w' e') = (let q = sym e ∙ e' in cc, w ∙ sym w')
magic-unique s u u' v v' (classic w e) (offset64 w' e') = let q = sym e ∙ e' in let z : ◌≡◌ {A = ℕ} 1 2 = cc in absurd (omega arith)
magic-unique s u u' v v' (offset64 w e) (classic w' e') = let q = sym e ∙ e' in let z : ◌≡◌ {A = ℕ} 2 1 = cc in absurd (omega arith)
magic-unique s u u' v v' (offset64 w e) (offset64 w' e') = (let q = sym e ∙ e' in cc, w ∙ sym w')

pub header-unique : Unique Header
header-unique s u u' m m' (header {p} {q} {r} {t} g w ds gs vs) (header {p = p'} {q = q'} {r = r'} {t = t'} g' w' ds' gs' vs') =
    let a = magic-unique s p p' m.version m'.version g g' in
    let f = form m.version in
    let b = numrecs-unique f.word_bytes p q q' m.word m'.word w (rw a.0 w') in
    let d = listed-unique f (omega arith) 0x0A (Dim f) (omega arith) (dim-unique f (omega arith) (omega arith)) q r r' m.dimensions m'.dimensions ds (rw (a.1, b.0) ds') in
    let e = attrs-unique f (omega arith) (omega arith) r t t' m.globals m'.globals gs (rw (a.1, d.0) gs') in
    let h = listed-unique f (omega arith) 0x0B (Var f) (omega arith) (var-unique f (omega arith) (omega arith)) t u u' m.variables m'.variables vs (rw (a.1, e.0) vs') in
    (h.0, λ i. record { version = a.1 i; word = b.1 i; dimensions = d.1 i; globals = e.1 i; variables = h.1 i })
