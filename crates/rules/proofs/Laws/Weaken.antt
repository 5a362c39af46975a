-- What is derived before some bytes is derived before more of them.
use Prim.Native.Nat.{ℕ}
use mathlib.Core.Path.{◌≡◌, ap, ◌∙◌}
use mathlib.Core.List.{List, [], ◌∷◌, ◌++◌, append_assoc}
use lib.ListN.{length, replicate}
use Rattle.cdf.specs.Form.{Form, form}
use Rattle.cdf.specs.Padding.{padding}
use Rattle.grammar.specs.Meaning.{Dimension, Attribute, Variable, Contents}
use Rattle.rules.specs.Rules.{spelled, NonNeg, non_neg, Numrecs, known, streaming, Offset, int, int64, nulls, Padded, bytes, Name, name, NcType, nc_type, Sequence, none, more, Listed, absent, tagged, Dim, dim, Attr, attr, Var, var, Magic, classic, offset64, Header, header}

module _ (w : List ℕ) where
  -- bytes that stand at the front still do
  front-more : (b s u : List ℕ) → s ≡ b ++ u → s ++ w ≡ b ++ (u ++ w)
  front-more b s u e = ap (λ (l : List ℕ). l ++ w) e ∙ append_assoc b u w

  non_neg-more : (k : ℕ) (s u : List ℕ) (n : ℕ) → NonNeg k s u n → NonNeg k (s ++ w) (u ++ w) n
  non_neg-more k s u n (non_neg h e) = non_neg h (front-more (spelled k n) s u e)

  numrecs-more : (k : ℕ) (s u : List ℕ) (n : ℕ) → Numrecs k s u n → Numrecs k (s ++ w) (u ++ w) n
  numrecs-more k s u n (known d) = known (non_neg-more k s u n d)
  numrecs-more k s u n (streaming h e) = streaming h (front-more (spelled k n) s u e)

  padded-more : (b s u : List ℕ) → Padded b s u → Padded b (s ++ w) (u ++ w)
  padded-more b s u (bytes {t = t} e (nulls z)) = bytes (front-more b s t e) (nulls (front-more (replicate (padding (length b)) 0) t u z))

  sequence-more : {A : Type 0} (R : List ℕ → List ℕ → A → Type 0) → ((s u : List ℕ) (x : A) → R s u x → R (s ++ w) (u ++ w) x) → (s u : List ℕ) (xs : List A) → Sequence R s u xs → Sequence R (s ++ w) (u ++ w) xs
  sequence-more R h s u [] (none _) = none (s ++ w)
  sequence-more R h s u (x ∷ xs) (more {t = t} d q) = more (h s t x d) (sequence-more R h t u xs q)

  module _ (f : Form) where
    offset-more : (s u : List ℕ) (n : ℕ) → Offset f s u n → Offset f (s ++ w) (u ++ w) n
    offset-more s u n (int e d) = int e (non_neg-more 4 s u n d)
    offset-more s u n (int64 e d) = int64 e (non_neg-more 8 s u n d)

    type-more : (s u : List ℕ) (n : ℕ) → NcType f s u n → NcType f (s ++ w) (u ++ w) n
    type-more s u n (nc_type l h e) = nc_type l h (front-more (spelled 4 n) s u e)

    name-more : (s u n : List ℕ) → Name f s u n → Name f (s ++ w) (u ++ w) n
    name-more s u n (name {t = t} c v p) = name (non_neg-more f.word_bytes s t (length n) c) v (padded-more n t u p)

    listed_more : {A : Type 0} (tag : ℕ) (R : List ℕ → List ℕ → A → Type 0) → ((s u : List ℕ) (x : A) → R s u x → R (s ++ w) (u ++ w) x) → (s u : List ℕ) (xs : List A) → Listed f tag R s u xs → Listed f tag R (s ++ w) (u ++ w) xs
    listed_more tag R h s u xs (absent z e) = absent z (front-more (replicate f.absent_bytes 0) s u e)
    listed_more tag R h s u xs (tagged {t = t} {v = v} e d q) = tagged (front-more (0 ∷ 0 ∷ 0 ∷ tag ∷ []) s t e) (non_neg-more f.word_bytes t v (length xs) d) (sequence-more R h v u xs q)

    dim-more : (s u : List ℕ) (d : Dimension) → Dim f s u d → Dim f (s ++ w) (u ++ w) d
    dim-more s u d (dim {t = t} n e) = dim (name-more s t d.name n) (non_neg-more f.word_bytes t u d.extent e)

    attr-more : (s u : List ℕ) (a : Attribute) → Attr f s u a → Attr f (s ++ w) (u ++ w) a
    attr-more s u a (attr {p = p} {q = q} {r = r} n t c l v) = attr (name-more s p a.name n) (type-more p q a.code t) (non_neg-more f.word_bytes q r a.count c) l (padded-more a.values r u v)

    var-more : (s u : List ℕ) (v : Variable) → Var f s u v → Var f (s ++ w) (u ++ w) v
    var-more s u v (var {p = p} {q = q} {r = r} {t = t} {w = x} {x = y} n c is xs k z o) =
        var (name-more s p v.name n) (non_neg-more f.word_bytes p q (length v.ids) c) (sequence-more (NonNeg f.word_bytes) (non_neg-more f.word_bytes) q r v.ids is)
        (listed_more 0x0C (Attr f) attr-more r t v.attributes xs) (type-more t x v.code k) (numrecs-more f.word_bytes x y v.vsize z) (offset-more y u v.begin o)

  magic-more : (s u : List ℕ) (v : ℕ) → Magic s u v → Magic (s ++ w) (u ++ w) v
  magic-more s u v (classic e h) = classic e (front-more (0x43 ∷ 0x44 ∷ 0x46 ∷ 0x01 ∷ []) s u h)
  magic-more s u v (offset64 e h) = offset64 e (front-more (0x43 ∷ 0x44 ∷ 0x46 ∷ 0x02 ∷ []) s u h)

  pub header-more : (s u : List ℕ) (m : Contents) → Header s u m → Header (s ++ w) (u ++ w) m
  header-more s u m (header {p = p} {q = q} {r = r} {t = t} g n ds gs vs) =
      let f = form m.version in
      header (magic-more s p m.version g) (numrecs-more f.word_bytes p q m.word n) (listed_more f 0x0A (Dim f) (dim-more f) q r m.dimensions ds)
      (listed_more f 0x0C (Attr f) (attr-more f) r t m.globals gs) (listed_more f 0x0B (Var f) (var-more f) t u m.variables vs)
