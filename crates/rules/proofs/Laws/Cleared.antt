-- The bytes of what a header says are the bytes that say it, but for the tags of empty lists.
use Prim.Native.Nat.{ℕ, zero, suc, ◌+◌, ◌-◌}
use native.Mathlib.Omega.{arith}
use mathlib.Core.Path.{◌≡◌, refl, ap, sym, subst, ◌∙◌}
use mathlib.Core.List.{List, [], ◌∷◌, ◌++◌, append_assoc, append-nil}
use lib.ListN.{length, set, replicate, length-append}
use lib.Seq.{set_at}
use Rattle.cdf.specs.Form.{Form, form}
use Rattle.cdf.specs.Padding.{padding}
use Rattle.grammar.specs.Meaning.{Dimension, Attribute, Variable, Contents}
use Rattle.rules.specs.Encode.{padded_out, each, list_bytes, name_bytes, dim_bytes, attr_bytes, var_bytes, encode}
use Rattle.rules.specs.Cleared.{in_items, of_tagged, of_list, of_var, empty_tags, cleared}
use Rattle.rules.specs.Rules.{spelled, NonNeg, non_neg, Numrecs, known, streaming, Offset, int, int64, nulls, Padded, bytes, Name, name, NcType, nc_type, Sequence, none, more, Listed, absent, tagged, Dim, dim, Attr, attr, AttList, Var, var, Magic, classic, offset64, Header, header}

-- one after the other
next : (a b s t u : List ℕ) → s ≡ a ++ t → t ≡ b ++ u → s ≡ a ++ b ++ u
next a b s t u e f = e ∙ ap (λ (l : List ℕ). a ++ l) f ∙ sym (append_assoc a b u)

-- rules without lists inside: their bytes are the bytes
non_neg-exact : {k n : ℕ} {s u : List ℕ} → NonNeg k s u n → s ≡ spelled k n ++ u
non_neg-exact (non_neg h e) = e

numrecs-exact : {k n : ℕ} {s u : List ℕ} → Numrecs k s u n → s ≡ spelled k n ++ u
numrecs-exact (known d) = non_neg-exact d
numrecs-exact (streaming h e) = e

offset-exact : {f : Form} {n : ℕ} {s u : List ℕ} → Offset f s u n → s ≡ spelled f.begin_bytes n ++ u
offset-exact (int w d) = rw w (non_neg-exact d)
offset-exact (int64 w d) = rw w (non_neg-exact d)

type-exact : {f : Form} {n : ℕ} {s u : List ℕ} → NcType f s u n → s ≡ spelled 4 n ++ u
type-exact (nc_type l h e) = e

padded-exact : (b s u : List ℕ) → Padded b s u → s ≡ padded_out b ++ u
unfolding padded_out
padded-exact b s u (bytes {t = t} e (nulls z)) = next b (replicate (padding (length b)) 0) s t u e z

module _ (f : Form) where
  name-exact : (n s u : List ℕ) → Name f s u n → s ≡ name_bytes f n ++ u
  unfolding name_bytes
  name-exact n s u (name {t = t} c v p) = next (spelled f.word_bytes (length n)) (padded_out n) s t u (non_neg-exact c) (padded-exact n t u p)

  dim-exact : (s u : List ℕ) (d : Dimension) → Dim f s u d → s ≡ dim_bytes f d ++ u
  unfolding dim_bytes
  dim-exact s u d (dim {t = t} n e) = next (name_bytes f d.name) (spelled f.word_bytes d.extent) s t u (name-exact d.name s t n) (non_neg-exact e)

  attr-exact : (s u : List ℕ) (a : Attribute) → Attr f s u a → s ≡ attr_bytes f a ++ u
  unfolding attr_bytes
  attr-exact s u a (attr {p = p} {q = q} {r = r} n t c l v) =
      let z = padded_out a.values in
      let y = spelled f.word_bytes a.count in
      let x = spelled 4 a.code in
      next (name_bytes f a.name) (x ++ (y ++ z)) s p u (name-exact a.name s p n) (next x (y ++ z) p q u (type-exact t) (next y z q r u (non_neg-exact c) (padded-exact a.values r u v)))

-- tags are cleared one after the other, and the length stays
cleared_both : (ps qs s : List ℕ) → cleared (ps ++ qs) s ≡ cleared qs (cleared ps s)
unfolding cleared
cleared_both [] qs s = refl
cleared_both (p ∷ ps) qs s = cleared_both ps qs (set s p 0)

-- what the bytes s become, after any bytes w: those of b, where u follows s. All are n
record Back (n : ℕ) (ps s u b : List ℕ) : Type 0 where
  become : (w : List ℕ) → length w + length s ≡ n → cleared ps (w ++ s) ≡ w ++ (b ++ u)
  long : length s ≡ length b + length u

back-exact : (n : ℕ) (s u b : List ℕ) → s ≡ b ++ u → Back n [] s u b
unfolding cleared
back-exact n s u b e = record { become = λ w h. ap (λ (l : List ℕ). w ++ l) e; long = ap length e ∙ length-append b u }

back-next : {n : ℕ} {ps qs s t u a b : List ℕ} → Back n ps s t a → Back n qs t u b → Back n (ps ++ qs) s u (a ++ b)
back-next {n} {ps} {qs} {s} {t} {u} {a} {b} f g =
    let l = f.long in
    let m = g.long in
    let j = length-append a b in
    record {
      become = λ w h.
          let k = length-append w a in
          cleared_both ps qs (w ++ s) ∙ ap (cleared qs) (f.become w h ∙ sym (append_assoc w a t)) ∙ g.become (w ++ a) (omega arith) ∙ append_assoc w a (b ++ u) ∙ ap (λ (l : List ℕ). w ++ l) (sym (append_assoc a b u));
      long = omega arith;
    }

-- the items of a list
items_back : {A : Type 0} {R : List ℕ → List ℕ → A → Type 0} (n : ℕ) (g : (s u : List ℕ) (x : A) → R s u x → List ℕ) (out : A → List ℕ) → ((s u : List ℕ) (x : A) (d : R s u x) → Back n (g s u x d) s u (out x))
    → (s u : List ℕ) (xs : List A) (q : Sequence R s u xs) → Back n (in_items g q) s u (each out xs)
unfolding in_items each
items_back n g out h s u [] (none _) = back-exact n s s [] refl
items_back n g out h s u (x ∷ xs) (more {t = t} d q) = back-next (h s t x d) (items_back n g out h t u xs q)

exact-items : {A : Type 0} {R : List ℕ → List ℕ → A → Type 0} (out : A → List ℕ) → ((s u : List ℕ) (x : A) → R s u x → s ≡ out x ++ u) → (s u : List ℕ) (xs : List A) → Sequence R s u xs → s ≡ each out xs ++ u
unfolding each
exact-items out h s u [] (none _) = refl
exact-items out h s u (x ∷ xs) (more {t = t} d q) = next (out x) (each out xs) s t u (h s t x d) (exact-items out h t u xs q)

spelled-zero : (k : ℕ) → spelled k 0 ≡ replicate k 0
unfolding spelled
spelled-zero zero = refl
spelled-zero (suc k) = ap (λ (l : List ℕ). l ++ (0 ∷ [])) (spelled-zero k) ∙ last k
  where
    last : (k : ℕ) → ◌≡◌ {A = List ℕ} (replicate k 0 ++ (0 ∷ [])) (replicate (suc k) 0)
    last zero = refl
    last (suc k) = ap (λ (l : List ℕ). 0 ∷ l) (last k)

module _ (f : Form) (eight : f.absent_bytes ≡ 4 + f.word_bytes) where
  -- a tag whose list has no items is cleared, and the list is absent
  empty_back : (n tag : ℕ) (s t u : List ℕ) → s ≡ 0 ∷ 0 ∷ 0 ∷ tag ∷ t → t ≡ spelled f.word_bytes 0 ++ u → Back n ((n - suc (length t)) ∷ []) s u (replicate f.absent_bytes 0)
  unfolding cleared
  empty_back n tag s t u e c =
      let zeros : ◌≡◌ {A = List ℕ} (0 ∷ 0 ∷ 0 ∷ 0 ∷ t) (replicate f.absent_bytes 0 ++ u) =
      ap (λ (x : List ℕ). 0 ∷ 0 ∷ 0 ∷ 0 ∷ x) (c ∙ ap (λ (x : List ℕ). x ++ u) (spelled-zero f.word_bytes)) ∙ ap (λ (x : List ℕ). x ++ u) (four f.word_bytes) ∙ ap (λ (k : ℕ). replicate k 0 ++ u) (sym eight) in
      let m = ap length zeros ∙ length-append (replicate f.absent_bytes 0) u in
      let l = ap length e in
      record {
        become = λ w h.
            let p : n - suc (length t) ≡ length w + 3 = omega arith in
            let k = length-append w (0 ∷ 0 ∷ 0 ∷ []) in
            let set-tag : set (w ++ (0 ∷ 0 ∷ 0 ∷ tag ∷ t)) (length w + 3) 0 ≡ w ++ (0 ∷ 0 ∷ 0 ∷ 0 ∷ t) =
            ap (λ (x : List ℕ). set x (length w + 3) 0) (sym (append_assoc w (0 ∷ 0 ∷ 0 ∷ []) (tag ∷ t))) ∙ set_at (w ++ (0 ∷ 0 ∷ 0 ∷ [])) tag t 0 (length w + 3) k ∙ append_assoc w (0 ∷ 0 ∷ 0 ∷ []) (0 ∷ t) in
            rw (e, p) (set-tag ∙ ap (λ (x : List ℕ). w ++ x) zeros);
        long = omega arith;
      }
    where
      four : (k : ℕ) → ◌≡◌ {A = List ℕ} (0 ∷ 0 ∷ 0 ∷ 0 ∷ replicate k 0) (replicate (4 + k) 0)
      four k = ap (λ (i : ℕ). replicate i 0) (let e : suc (suc (suc (suc k))) ≡ 4 + k = omega arith in e)

  list_back : {A : Type 0} {R : List ℕ → List ℕ → A → Type 0} (n tag : ℕ) (g : (s u : List ℕ) (x : A) → R s u x → List ℕ) (out : A → List ℕ) → ((s u : List ℕ) (x : A) (d : R s u x) → Back n (g s u x d) s u (out x))
      → (s u : List ℕ) (xs : List A) (d : Listed f tag R s u xs) → Back n (of_list n g d) s u (list_bytes f tag out xs)
  unfolding of_list list_bytes of_tagged each
  list_back {A} n tag g out h s u xs (absent z e) = subst (λ (l : List A). Back n [] s u (list_bytes f tag out l)) (sym z) (back-exact n s u (replicate f.absent_bytes 0) e)
  list_back n tag g out h s u [] (tagged {t = t} {v = v} e c (none _)) = empty_back n tag s t u e (non_neg-exact c)
  list_back n tag g out h s u (x ∷ xs) (tagged {t = t} {v = v} e c (more {t = r} d q)) =
      back-next (back-exact n s t (0 ∷ 0 ∷ 0 ∷ tag ∷ []) e) (back-next (back-exact n t v (spelled f.word_bytes (length (x ∷ xs))) (non_neg-exact c)) (back-next (h v r x d) (items_back n g out h r u xs q)))

  attrs-back : (n : ℕ) (s u : List ℕ) (xs : List Attribute) (d : AttList f s u xs) → Back n (of_list n (λ _ _ _ _. []) d) s u (list_bytes f 0x0C (attr_bytes f) xs)
  attrs-back n s u xs d = list_back n 0x0C (λ _ _ _ _. []) (attr_bytes f) (λ s u x d. back-exact n s u (attr_bytes f x) (attr-exact f s u x d)) s u xs d

  var-back : (n : ℕ) (s u : List ℕ) (x : Variable) (d : Var f s u x) → Back n (of_var n s u x d) s u (var_bytes f x)
  unfolding of_var var_bytes
  var-back n s u x (var {p = p} {q = q} {r = r} {t = t} {w = w} {x = y} m c is xs k z o) =
      let b = f.word_bytes in
      let ids = back-exact n q r (each (spelled b) x.ids) (exact-items (spelled b) (λ s u x d. non_neg-exact d) q r x.ids is) in
      let tail = back-exact n t u (spelled 4 x.code ++ (spelled b x.vsize ++ spelled f.begin_bytes x.begin))
      (next (spelled 4 x.code) _ t w u (type-exact k) (next (spelled b x.vsize) _ w y u (numrecs-exact z) (offset-exact o))) in
      let end = back-next (attrs-back n r t x.attributes xs) tail in
      back-next (back-exact n s p (name_bytes f x.name) (name-exact f x.name s p m)) (back-next (back-exact n p q (spelled b (length x.ids)) (non_neg-exact c)) (back-next ids (rw append-nil at end)))

magic-exact : (s u : List ℕ) (v : ℕ) → Magic s u v → s ≡ 0x43 ∷ 0x44 ∷ 0x46 ∷ v ∷ u
magic-exact s u v (classic w e) = e ∙ ap (λ (x : ℕ). 0x43 ∷ 0x44 ∷ 0x46 ∷ x ∷ u) (sym w)
magic-exact s u v (offset64 w e) = e ∙ ap (λ (x : ℕ). 0x43 ∷ 0x44 ∷ 0x46 ∷ x ∷ u) (sym w)

-- a header's bytes, with the tags of its empty lists cleared
pub header-back : (s u : List ℕ) (m : Contents) (d : Header s u m) → cleared (empty_tags (length s) d) s ≡ encode m ++ u
unfolding empty_tags encode
header-back s u m (header {p = p} {q = q} {r = r} {t = t} g w ds gs vs) =
    let f = form m.version in
    let n = length s in
    let lists = back-next (list_back f refl n 0x0A (λ _ _ _ _. []) (dim_bytes f) (λ s u x d. back-exact n s u (dim_bytes f x) (dim-exact f s u x d)) q r m.dimensions ds)
    (back-next (attrs-back f refl n r t m.globals gs) (list_back f refl n 0x0B (of_var n) (var_bytes f) (var-back f refl n) t u m.variables vs)) in
    let all = back-next (back-exact n s p (0x43 ∷ 0x44 ∷ 0x46 ∷ m.version ∷ []) (magic-exact s p m.version g)) (back-next (back-exact n p q (spelled f.word_bytes m.word) (numrecs-exact w)) lists) in
    all.become [] (let z : 0 + n ≡ n = omega arith in z)
