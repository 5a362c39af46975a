-- What a step of the reader takes is derived by the rule of its name.
use Prim.Native.Nat.{ℕ, zero, suc, ◌+◌, ◌*◌, ◌^◌, ◌≤◌, ◌<◌}
use native.Mathlib.Omega.{arith}
use native.Mathlib.Nat.{zero-add}
use mathlib.Core.Path.{◌≡◌, refl, ap, sym, subst, ◌∙◌}
use mathlib.Core.Bool.{Bool, true, false, cond, ◌||◌, ◌&&◌}
use mathlib.Core.Logic.{◌⊎◌, inl, inr, ⊎_elim}
use mathlib.Core.List.{List, [], ◌∷◌, ◌++◌, map, append_assoc, append-nil}
use lib.ListN.{length, get_or, take, drop, replicate, length-drop, length-replicate, get_or-replicate, take-append-drop, length-map}
use lib.Seq.{drop-drop, get_or-take, get_or-drop, ext_get_or, length-take-le, drop-cons}
use lib.Dec.{ltb, leb, eqb}
use borrow.Author.Tests.{ltb-true, leb-true, eqb-true}
use Rattle.bigendian.specs.Number.{be, half, extended}
use Rattle.bigendian.proofs.Laws.Number.{extended-low, extended-high}
use Rattle.cdf.specs.Step.{Step, got, bind, test, unfinished, items}
use Rattle.cdf.specs.Form.{Form, form}
use Rattle.cdf.specs.Word.{word, non_negative, open_count, nelems, signed, indeterminate}
use Rattle.cdf.specs.Padding.{padding, zeros, zero_padding}
use Rattle.cdf.specs.Magic.{begins, cdf, magic, admits, version_byte}
use Rattle.cdf.specs.ListStart.{list_start}
use Rattle.cdf.specs.declared.version.Admitted.{Admitted}
use Rattle.cdf.proofs.Laws.Step.{bind-came, test-came, got_same, items-length}
use Rattle.cdf.proofs.Laws.Below.{order, both, holds_at}
use Rattle.cdf.proofs.Laws.Magic.{begins-at}
use Rattle.cdf.proofs.Laws.ListStart.{tag_bytes, tag-inside}
use Rattle.items.specs.Name.{longest_name, part, name as name_step}
use Rattle.items.specs.Types.{size_of, data_type}
use Rattle.items.specs.Values.{values}
use Rattle.grammar.specs.Meaning.{Variable, dimension, attribute, variable, contents}
use Rattle.grammar.specs.Tree.{VarItem, Tree, attrs_of}
use Rattle.grammar.specs.Dims.{dim as dim_step, dim_list}
use Rattle.grammar.specs.Tables.{max_rank}
use Rattle.grammar.specs.Attrs.{attr as attr_step, attr_list}
use Rattle.grammar.specs.Vars.{var as var_step, var_list}
use Rattle.grammar.specs.Grammar.{header as header_step}
use Rattle.grammar.specs.declared.tables.Dim.{Dim as DimRow}
use Rattle.grammar.specs.declared.tables.Attr.{Attr as AttrRow}
use Rattle.rules.specs.Rules.{spelled, NonNeg, non_neg, Numrecs, known, streaming, Offset, int, int64, Padding, nulls, Padded, bytes, Name, name, NcType, nc_type, Sequence, none, more, Listed, absent, tagged, Dim, dim, Attr, attr, AttList, Var, var, VarList, Magic, classic, offset64, Header, header}
use Rattle.rules.proofs.Laws.Views.{EachIs}
use Rattle.rules.proofs.Laws.Spelled.{spelled-be}
use Rattle.rules.proofs.Laws.Sequence.{none-same, sequence-map, listed-where}

-- a step that was taken had its bytes at hand, and came by the side of a check that held
pub hand-came : {A : Type 0} {a : A} {e : ℕ} {b : Bool} {x : Step A} (s : List ℕ) (size : ℕ) → got a e ≡ test b x (unfinished s size) → (b ≡ true) × (got a e ≡ x)
unfolding unfinished
hand-came s size f = test-came _ _ f

sides : {A : Type 0} {a : A} {e : ℕ} (b : Bool) (x y : Step A) (Q : Type 0) → got a e ≡ test b x y → (b ≡ true → got a e ≡ x → Q) → (b ≡ false → got a e ≡ y → Q) → Q
unfolding test
sides true x y Q f h k = h refl f
sides false x y Q f h k = k refl f

pub got-place : {A : Type 0} {a b : A} {n m : ℕ} → got a n ≡ got b m → n ≡ m
got-place e = cc

pub width_of : (v : ℕ) → ((form v).begin_bytes ≡ 4) ⊎ ((form v).begin_bytes ≡ 8)
width_of v = by (eqb v 1)
  where
    by : (b : Bool) → (◌≡◌ {A = ℕ} (cond b 4 8) 4) ⊎ (◌≡◌ {A = ℕ} (cond b 4 8) 8)
    by true = inl refl
    by false = inr refl

module _ (s : List ℕ) where
  -- n bytes at a place, and what follows them
  pub hand : (at n : ℕ) → drop at s ≡ part s at n ++ drop (at + n) s
  hand at n = sym (take-append-drop n (drop at s)) ∙ ap (λ (l : List ℕ). take n (drop at s) ++ l) (drop-drop n at s)

  pub length_part : (at n : ℕ) → at + n ≤ length s → length (part s at n) ≡ n
  length_part at n h = let l = length-drop at s in length-take-le n (drop at s) (omega arith)

  -- bytes that are those of a pattern
  pub part-is : (t : List ℕ) (at : ℕ) → at + length t ≤ length s → ((i : ℕ) → i < length t → get_or s (at + i) 0 ≡ get_or t i 0) → part s at (length t) ≡ t
  part-is t at h k =
      let l = length_part at (length t) h in
      ext_get_or 0 (part s at (length t)) t l (λ i j. get_or-take (length t) (drop at s) i 0 (omega arith) ∙ get_or-drop at s i 0 ∙ k i (omega arith))

  pub begins-part : (t : List ℕ) (at : ℕ) → at + length t ≤ length s → begins t s at ≡ true → part s at (length t) ≡ t
  begins-part t at h b = part-is t at h (λ i l. begins-at t s at i b l (omega arith))

  pub zeros-part : (n at : ℕ) → at + n ≤ length s → zeros n s at ≡ true → part s at n ≡ replicate n 0
  unfolding zeros
  zeros-part n at h z =
      let l = length-replicate {A = ℕ} n 0 in
      ap (part s at) (sym l) ∙ part-is (replicate n 0) at (omega arith) (λ i j. eqb-true _ _ (holds_at (λ i. eqb (get_or s (at + i) 0) 0) n i z (omega arith)) ∙ sym (get_or-replicate n i 0 0 (omega arith)))

  module _ (size : ℕ) where
    pub padding-sound : {e : ℕ} (n at : ℕ) → got tt e ≡ zero_padding n s size at → Padding n (drop at s) (drop e s)
    unfolding zero_padding
    padding-sound {e} n at f =
        let a = hand-came s size f in
        let b = test-came _ _ a.1 in
        let p = got-place b.1 in
        let z = zeros-part (padding n) at (leb-true _ _ a.0) b.0 in
        nulls (hand at (padding n) ∙ rw (z, p))

    -- so many items, one after the other
    pub items-sound : {A : Type 0} {ys : List A} {e : ℕ} (g : List A → ℕ → Step A) (R : List ℕ → List ℕ → A → Type 0)
        → ((xs : List A) (at q : ℕ) (x : A) → got x q ≡ g xs at → R (drop at s) (drop q s) x)
        → (n : ℕ) (xs : List A) (at : ℕ) → got ys e ≡ items g n xs at → (zs : List A) × (ys ≡ xs ++ zs) × Sequence R (drop at s) (drop e s) zs
    unfolding items
    items-sound {A} {ys} {e} g R h zero xs at f = ([], got_same f ∙ sym (append-nil xs), subst (λ (i : ℕ). Sequence R (drop at s) (drop i s) []) (sym (got-place f)) (none (drop at s)))
    items-sound {A} {ys} {e} g R h (suc n) xs at f =
        bind-came _ _ f ((zs : List A) × (ys ≡ xs ++ zs) × Sequence R (drop at s) (drop e s) zs) (λ x q c k.
        let r = items-sound g R h n (xs ++ (x ∷ [])) q k in
        (x ∷ r.0, r.1 ∙ append_assoc xs (x ∷ []) r.0, more (h xs at q x c) r.2))

    module _ (is : (i : ℕ) → get_or s i 0 < 256) where
      pub word_sound : {v e : ℕ} (k at : ℕ) → got v e ≡ word k s size at → (e ≡ at + k) × (drop at s ≡ spelled k v ++ drop e s)
      unfolding word
      word_sound {v} {e} k at f =
          let a = hand-came s size f in
          let p = got-place a.1 in
          let w : v ≡ be k s at = got_same a.1 in
          (p, hand at k ∙ rw (w, p, spelled-be s is k at (leb-true _ _ a.0)))

      pub non_negative-sound : {v e : ℕ} (k at : ℕ) → got v e ≡ non_negative k s size at → (e ≡ at + k) × NonNeg k (drop at s) (drop e s) v
      unfolding non_negative
      non_negative-sound {v} {e} k at f =
          bind-came _ _ f ((e ≡ at + k) × NonNeg k (drop at s) (drop e s) v) (λ x p c g.
          let t = test-came _ _ g in
          let same : v ≡ x = got_same t.1 in
          let w = word_sound {v = v} {e = e} k at (rw (same, got-place t.1) c) in
          (w.0, non_neg (rw same (ltb-true x (half k) t.0)) w.1))

      pub open_count-sound : {v e : ℕ} (k at : ℕ) → got v e ≡ open_count k s size at → Numrecs k (drop at s) (drop e s) v
      unfolding open_count
      open_count-sound {v} {e} k at f =
          bind-came _ _ f (Numrecs k (drop at s) (drop e s) v) (λ x p c g.
          let t = test-came _ _ g in
          let same : v ≡ x = got_same t.1 in
          let w = word_sound {v = v} {e = e} k at (rw (same, got-place t.1) c) in
          by_kind (ltb x (half k)) refl t.0 same w.1)
        where
          by_kind : {x : ℕ} (b : Bool) → ltb x (half k) ≡ b → (ltb x (half k) || eqb x (indeterminate k)) ≡ true → v ≡ x → drop at s ≡ spelled k v ++ drop e s → Numrecs k (drop at s) (drop e s) v
          by_kind {x} true q t same w = known (non_neg (rw same (ltb-true x (half k) q)) w)
          by_kind {x} false q t same w = streaming (same ∙ eqb-true x (indeterminate k) (rw q at t)) w

      pub nelems-sound : {v e : ℕ} (capacity k at : ℕ) → got v e ≡ nelems capacity k s size at → (e ≡ at + k) × NonNeg k (drop at s) (drop e s) v
      unfolding nelems
      nelems-sound {v} {e} capacity k at f =
          bind-came _ _ f ((e ≡ at + k) × NonNeg k (drop at s) (drop e s) v) (λ x p c g.
          let t = test-came _ _ g in
          non_negative-sound {v = v} {e = e} k at (rw (got_same t.1, got-place t.1) c))

      low_signed : {b e : ℕ} (k at : ℕ) → ((v : ℕ) → half k ≤ v → b ≡ extended k v → ⊥) → got b e ≡ signed k s size at → NonNeg k (drop at s) (drop e s) b
      unfolding signed
      low_signed {b} {e} k at never q =
          bind-came _ _ q (NonNeg k (drop at s) (drop e s) b) (λ v p c r.
          ⊎_elim
          (λ (m : half k ≤ v). absurd (never v m (got_same r)))
          (λ (m : v < half k).
          let same : b ≡ v = got_same r ∙ sym (extended-low k v m) in
          let w = word_sound {v = b} {e = e} k at (rw (same, got-place r) c) in
          non_neg (rw same m) w.1)
          (order (half k) v))

      -- a begin that is not above 2^62, and so not negative
      pub signed-sound : {b e : ℕ} (f : Form) (at : ℕ) → (f.begin_bytes ≡ 4) ⊎ (f.begin_bytes ≡ 8) → got b e ≡ signed f.begin_bytes s size at → b ≤ 2 ^ 62 → Offset f (drop at s) (drop e s) b
      signed-sound {b} {e} f at h g l =
          ⊎_elim
          (λ (w : f.begin_bytes ≡ 4). int w (low_signed {b = b} {e = e} 4 at (λ v m q. let i = extended-high 4 v m ∙ sym q in omega arith) (rw w at g)))
          (λ (w : f.begin_bytes ≡ 8). int64 w (low_signed {b = b} {e = e} 8 at (λ v m q. let i = extended-high 8 v m ∙ sym q in omega arith) (rw w at g)))
          h

      pub type-sound : {c e : ℕ} (f : Form) (at : ℕ) → got c e ≡ data_type f.codes s size at → NcType f (drop at s) (drop e s) c
      unfolding data_type
      type-sound {c} {e} f at g =
          bind-came _ _ g (NcType f (drop at s) (drop e s) c) (λ v p q h.
          let t = test-came _ _ h in
          let same : c ≡ v = got_same t.1 in
          let b = both (leb 1 v) (leb v f.codes) t.0 in
          plain (rw same (leb-true 1 v b.0)) (rw same (leb-true v f.codes b.1)) (non_negative-sound {v = c} {e = e} 4 at (rw (same, got-place t.1) q)).1)
        where
          plain : 1 ≤ c → c ≤ f.codes → NonNeg 4 (drop at s) (drop e s) c → NcType f (drop at s) (drop e s) c
          plain l h (non_neg _ w) = nc_type l h w

      pub name-sound : {n e : ℕ} (f : Form) (at : ℕ) → got n e ≡ name_step f.word_bytes s size at → Name f (drop at s) (drop e s) (part s (at + f.word_bytes) n)
      unfolding name_step
      name-sound {n} {e} f at g =
          bind-came _ _ g (Name f (drop at s) (drop e s) (part s (at + f.word_bytes) n)) (λ m p c h.
          let a = hand-came s size h in
          let u = test-came _ _ a.1 in
          bind-came _ _ u.1 (Name f (drop at s) (drop e s) (part s (at + f.word_bytes) n)) (λ _ q z i.
          let same : n ≡ m = got_same i in
          let place : e ≡ q = got-place i in
          let w = nelems-sound longest_name f.word_bytes at c in
          let l = length_part p m (leb-true _ _ a.0) in
          let b : Padded (part s p m) (drop p s) (drop e s) = bytes (hand p m) (rw (l, place) (padding-sound m (p + m) z)) in
          rw (same, ← w.0) (name (rw (← l) at w.1) u.0 b)))

      pub values-sound : {e : ℕ} (count width at : ℕ) → got tt e ≡ values count width s size at → (length (part s at (count * width)) ≡ count * width) × Padded (part s at (count * width)) (drop at s) (drop e s)
      unfolding values
      values-sound count width at f =
          let a = hand-came s size f in
          let l = length_part at (count * width) (leb-true _ _ a.0) in
          (l, bytes (hand at (count * width)) (rw l (padding-sound (count * width) (at + count * width) a.1)))

      -- a list's start, and then its items
      pub start-sound : {A : Type 0} {n e : ℕ} {u : List ℕ} (f : Form) (tag room at : ℕ) (R : List ℕ → List ℕ → A → Type 0) (xs : List A)
          → got n e ≡ list_start f.absent_bytes f.word_bytes tag room s size at → length xs ≡ n → Sequence R (drop e s) u xs → Listed f tag R (drop at s) u xs
      unfolding list_start
      start-sound {A} {n} {e} {u} f tag room at R xs g l q =
          sides (begins (replicate f.absent_bytes 0) s at) _ _ (Listed f tag R (drop at s) u xs) g
          (λ b h.
          let a = hand-came s size h in
          let z : n ≡ 0 = got_same a.1 in
          let r = length-replicate {A = ℕ} f.absent_bytes 0 in
          let i = leb-true _ _ a.0 in
          let t = begins-part (replicate f.absent_bytes 0) at (rw r i) b in
          let empty = none_is xs (l ∙ z) in
          absent empty (hand at f.absent_bytes ∙ rw (ap (part s at) (sym r) ∙ t, ← got-place a.1, none-same {R = R} (subst (λ (ys : List A). Sequence R (drop e s) u ys) empty q))))
          (λ b h.
          let c = test-came _ _ h in
          let i = tag-inside f.absent_bytes tag s at b c.0 in
          let t = begins-part (tag_bytes tag) at i c.0 in
          tagged (hand at 4 ∙ ap (λ (m : List ℕ). m ++ drop (at + 4) s) t) (rw l (nelems-sound room f.word_bytes (at + 4) c.1).1) q)
        where
          none_is : (ys : List A) → length ys ≡ 0 → ys ≡ []
          none_is [] h = refl
          none_is (y ∷ ys) h = absurd (omega arith)

      -- a list of items, each of which is so
      pub listed-sound : {A B : Type 0} {xs : List A} {e : ℕ} (f : Form) (tag room at : ℕ) (g : List A → ℕ → Step A) (mean : A → B) (R : List ℕ → List ℕ → B → Type 0)
          → ((ys : List A) (p q : ℕ) (x : A) → got x q ≡ g ys p → R (drop p s) (drop q s) (mean x))
          → got xs e ≡ bind (list_start f.absent_bytes f.word_bytes tag room s size at) (λ n p. items g n [] p) → Listed f tag R (drop at s) (drop e s) (map mean xs)
      listed-sound {A} {B} {xs} {e} f tag room at g mean R h c =
          bind-came _ _ c (Listed f tag R (drop at s) (drop e s) (map mean xs)) (λ n p a i.
          let r = items-sound g (λ s u x. R s u (mean x)) h n [] p i in
          let l = items-length g n [] p i in
          start-sound f tag room at R (map mean xs) a (length-map xs mean ∙ l ∙ zero-add n) (sequence-map mean R (subst (λ (l : List A). Sequence (λ s u x. R s u (mean x)) (drop p s) (drop e s) l) (sym r.1) r.2)))

      pub dim-sound : {d : DimRow} {e : ℕ} (f : Form) (at : ℕ) → got d e ≡ dim_step f s size at → Dim f (drop at s) (drop e s) (dimension s d)
      unfolding dim_step
      dim-sound {d} {e} f at g =
          bind-came _ _ g (Dim f (drop at s) (drop e s) (dimension s d)) (λ n p a h.
          bind-came _ _ h (Dim f (drop at s) (drop e s) (dimension s d)) (λ l q b i.
          rw (got_same i, got-place i) (dim (name-sound f at a) (non_negative-sound f.word_bytes p b).1)))

      pub attr-sound : {a : AttrRow} {e : ℕ} (f : Form) (at : ℕ) → got a e ≡ attr_step f s size at → Attr f (drop at s) (drop e s) (attribute s a)
      unfolding attr_step
      attr-sound {a} {e} f at g =
          let Q = Attr f (drop at s) (drop e s) (attribute s a) in
          bind-came _ _ g Q (λ n p b h.
          bind-came _ _ h Q (λ code q c i.
          bind-came _ _ i Q (λ count r d j.
          bind-came _ _ j Q (λ _ t v k.
          let w = values-sound count (size_of code) r v in
          rw (got_same k, got-place k) (attr (name-sound f at b) (type-sound f p c) (non_negative-sound f.word_bytes q d).1 w.0 w.1)))))

      pub attrs-sound : {xs : List AttrRow} {e : ℕ} (f : Form) (used at : ℕ) → got xs e ≡ attr_list f s size used at → AttList f (drop at s) (drop e s) (map (attribute s) xs)
      unfolding attr_list
      attrs-sound f used at g = listed-sound f 0x0C _ at (λ _. attr_step f s size) (attribute s) (Attr f) (λ _ p q x h. attr-sound f p h) g

      pub var-sound : {x : VarItem} {e : ℕ} (f : Form) (used at : ℕ) → (f.begin_bytes ≡ 4) ⊎ (f.begin_bytes ≡ 8) → got x e ≡ var_step f s size used at → x.begin ≤ 2 ^ 62 → Var f (drop at s) (drop e s) (variable s x)
      unfolding var_step
      var-sound {x} {e} f used at width g small =
          let Q = Var f (drop at s) (drop e s) (variable s x) in
          bind-came _ _ g Q (λ n p a h.
          bind-came _ _ h Q (λ k q b i.
          bind-came _ _ i Q (λ is r c j.
          bind-came _ _ j Q (λ xs t d l.
          bind-came _ _ l Q (λ code v m o.
          bind-came _ _ o Q (λ z w y aa.
          bind-came _ _ aa Q (λ begin u bb cc.
          let same = got_same cc in
          let ids = items-sound (λ _. non_negative f.word_bytes s size) (NonNeg f.word_bytes) (λ _ p q y h. (non_negative-sound f.word_bytes p h).1) k [] q c in
          let rank = items-length (λ _. non_negative f.word_bytes s size) k [] q c in
          let low : begin ≤ 2 ^ 62 = subst (λ (y : VarItem). y.begin ≤ 2 ^ 62) same small in
          rw (same, got-place cc)
          (var (name-sound f at a) (subst (λ (i : ℕ). NonNeg f.word_bytes (drop p s) (drop q s) i) (sym (rank ∙ zero-add k)) (nelems-sound max_rank f.word_bytes p b).1)
          (subst (λ (l : List ℕ). Sequence (NonNeg f.word_bytes) (drop q s) (drop r s) l) (sym ids.1) ids.2) (attrs-sound f used r d) (type-sound f t m) (open_count-sound f.word_bytes v y)
          (signed-sound f w width bb low)))))))))

      pub vars-sound : {xs : List VarItem} {e : ℕ} (f : Form) (used at : ℕ) → (f.begin_bytes ≡ 4) ⊎ (f.begin_bytes ≡ 8) → got xs e ≡ var_list f s size used at
          → EachIs (λ (v : Variable). v.begin ≤ 2 ^ 62) (map (variable s) xs) → VarList f (drop at s) (drop e s) (map (variable s) xs)
      unfolding var_list
      vars-sound f used at width g small =
          listed-where f 0x0B (λ (v : Variable). v.begin ≤ 2 ^ 62) (Var f)
          (listed-sound f 0x0B _ at (λ vs. var_step f s size (used + length (attrs_of vs))) (variable s) (λ s u v. v.begin ≤ 2 ^ 62 → Var f s u v) (λ vs p q x h. var-sound f (used + length (attrs_of vs)) p width h) g) small

      magic-sound : {e v : ℕ} {p : ℕ} (a : Admitted) → got tt p ≡ magic s size → got v e ≡ version_byte a s size p → Magic s (drop e s) v
      unfolding magic version_byte admits
      magic-sound {e} {v} {p} a f g =
          let b = test-came _ _ f in
          let h = hand-came s size b.1 in
          let m = begins-part cdf 0 (leb-true _ _ h.0) b.0 in
          let i = hand-came s size g in
          let j = test-came _ _ i.1 in
          let at : p ≡ 3 = got-place h.1 in
          let byte : v ≡ get_or s 3 0 = got_same j.1 ∙ ap (λ (k : ℕ). get_or s k 0) at in
          let end : e ≡ 4 = got-place j.1 ∙ ap (λ (k : ℕ). k + 1) at in
          let l : 3 < length s = let k = leb-true (p + 1) (length s) i.0 in omega arith in
          let all : s ≡ 0x43 ∷ 0x44 ∷ 0x46 ∷ v ∷ drop e s =
          hand 0 3 ∙ ap (λ (t : List ℕ). t ++ drop 3 s) m ∙ ap (λ (t : List ℕ). 0x43 ∷ 0x44 ∷ 0x46 ∷ t) (drop-cons s 3 0 l ∙ rw (byte, end)) in
          which v all (subst (λ (k : ℕ). (eqb k 1 && a.classic || eqb k 2 && a.offset64) ≡ true) (sym (got_same j.1)) j.0)
        where
          which : (v : ℕ) → s ≡ 0x43 ∷ 0x44 ∷ 0x46 ∷ v ∷ drop e s → (eqb v 1 && a.classic || eqb v 2 && a.offset64) ≡ true → Magic s (drop e s) v
          which v h k = by (eqb v 1) (eqb v 2) refl refl k
            where
              by : (b c : Bool) → eqb v 1 ≡ b → eqb v 2 ≡ c → (b && a.classic || c && a.offset64) ≡ true → Magic s (drop e s) v
              by true c p q k = classic (eqb-true v 1 p) (h ∙ ap (λ (x : ℕ). 0x43 ∷ 0x44 ∷ 0x46 ∷ x ∷ drop e s) (eqb-true v 1 p))
              by false true p q k = offset64 (eqb-true v 2 q) (h ∙ ap (λ (x : ℕ). 0x43 ∷ 0x44 ∷ 0x46 ∷ x ∷ drop e s) (eqb-true v 2 q))
              by false false p q k = let z : ◌≡◌ {A = Bool} false true = k in absurd (let w : ◌≡◌ {A = ℕ} 0 1 = cc in omega arith)

      -- a header that the grammar reads, with no begin above 2^62, is derived by the rules
      pub header-sound : {h : Tree} {e : ℕ} (a : Admitted) → got h e ≡ header_step a s size → EachIs (λ (v : Variable). v.begin ≤ 2 ^ 62) (map (variable s) h.vars) → Header s (drop e s) (contents s h)
      unfolding header_step contents dim_list
      header-sound {h} {e} a g small =
          let Q = Header s (drop e s) (contents s h) in
          bind-came _ _ g Q (λ _ p b i.
          bind-came _ _ i Q (λ v q c j.
          bind-came _ _ j Q (λ w r d k.
          bind-came _ _ k Q (λ ds t l m.
          bind-came _ _ m Q (λ gs x n o.
          bind-came _ _ o Q (λ vs y z u.
          let same = got_same u in
          let low : EachIs (λ (v : Variable). v.begin ≤ 2 ^ 62) (map (variable s) vs) = subst (λ (h : Tree). EachIs (λ (v : Variable). v.begin ≤ 2 ^ 62) (map (variable s) h.vars)) same small in
          rw (same, got-place u)
          (header (magic-sound a b c) (open_count-sound (form v).word_bytes q d) (listed-sound (form v) 0x0A _ r (λ _. dim_step (form v) s size) (dimension s) (Dim (form v)) (λ _ p q x h. dim-sound (form v) p h) l)
          (attrs-sound (form v) 0 t n) (vars-sound (form v) (length gs) x (width_of v) z low))))))))
