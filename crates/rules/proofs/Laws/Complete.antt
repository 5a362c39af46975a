-- What the rules derive, the steps of the reader take, where the capacities allow it.
use Prim.Native.Nat.{ℕ, ◌+◌, ◌-◌, ◌*◌, ◌^◌, ◌≤◌, ◌<◌}
use native.Mathlib.Omega.{arith}
use mathlib.Core.Path.{◌≡◌, refl, ap, sym, ◌∙◌}
use mathlib.Core.Bool.{true}
use mathlib.Core.Logic.{inr}
use mathlib.Core.List.{List, [], ◌∷◌, ◌++◌, map, append_assoc, append-nil}
use lib.ListN.{length, get_or, take, drop, replicate, length-append, length-drop, length-replicate, length-map, get_or-replicate, get_or-append}
use lib.Seq.{drop-drop, get_or-drop, take_at, drop_at}
use Rattle.bigendian.proofs.Laws.Number.{extended-low}
use Rattle.cdf.specs.Step.{Step, got, bind, items}
use Rattle.cdf.specs.Form.{Form, form}
use Rattle.cdf.specs.Word.{word, non_negative, open_count, nelems, signed}
use Rattle.cdf.specs.Padding.{padding, zero_padding}
use Rattle.cdf.specs.Magic.{cdf, magic, admits, version_byte}
use Rattle.cdf.specs.ListStart.{list_start}
use Rattle.cdf.specs.declared.version.Admitted.{Admitted}
use Rattle.cdf.proofs.Laws.Step.{by-got}
use Rattle.cdf.proofs.Laws.Padding.{zeros-all, padding-got}
use Rattle.cdf.proofs.Laws.Magic.{begins-all, begins-not, magic-got, version_byte-got}
use Rattle.cdf.proofs.Laws.Word.{word_got, non_negative-got, open_count-got, open_count-open, nelems-got, signed-got}
use Rattle.cdf.proofs.Laws.ListStart.{tag_bytes, start-absent, start-tag}
use Rattle.items.specs.Name.{longest_name, part, name as name_step}
use Rattle.items.specs.Types.{size_of, data_type}
use Rattle.items.specs.Values.{values}
use Rattle.items.proofs.Laws.Name.{name_bytes-got, name-got}
use Rattle.items.proofs.Laws.Types.{type-got}
use Rattle.items.proofs.Laws.Values.{values-then}
use Rattle.grammar.specs.Meaning.{Dimension, Attribute, Variable, Contents, dimension, attribute, variable, contents}
use Rattle.grammar.specs.Tree.{VarItem, Tree, tree, attrs_of}
use Rattle.grammar.specs.Tables.{max_rank, max_attrs, max_dims, max_vars}
use Rattle.grammar.proofs.Laws.Tables.{attrs_of-more}
use Rattle.grammar.specs.Dims.{dim as dim_step, dim_list}
use Rattle.grammar.specs.Attrs.{attr as attr_step, attr_list}
use Rattle.grammar.specs.Vars.{var as var_step, var_list}
use Rattle.grammar.specs.Grammar.{header as header_step}
use Rattle.grammar.specs.declared.tables.Dim.{Dim as DimRow}
use Rattle.grammar.specs.declared.tables.Attr.{Attr as AttrRow}
use Rattle.rules.specs.Rules.{spelled, NonNeg, non_neg, Numrecs, known, streaming, Offset, int, int64, Padding, nulls, Padded, bytes, Name, name, NcType, nc_type, Sequence, none, more, Listed, absent, tagged, Dim, dim, Attr, attr, AttList, Var, var, VarList, Magic, classic, offset64, Header, header}
use Rattle.rules.specs.Capacity.{attributes_of}
use Rattle.rules.proofs.Laws.Views.{EachIs, IsShort, AreShort, VarFits, Fits}
use Rattle.rules.proofs.Laws.Spelled.{length-spelled, be-spelled, half-fits, open-fits}

-- a step takes a value, and then the bytes u are left
pub record Taken {A : Type 0} (s : List ℕ) (m : Step A) (u : List ℕ) (x : A) : Type 0 where
  pub end : ℕ
  pub taken : got x end ≡ m
  pub rest : u ≡ drop end s
  pub inside : end ≤ length s

-- a word is taken, k bytes further on
pub record Spelt (s : List ℕ) (k at : ℕ) (m : Step ℕ) (u : List ℕ) (v : ℕ) : Type 0 where
  pub taken : got v (at + k) ≡ m
  pub rest : u ≡ drop (at + k) s
  pub inside : at + k ≤ length s

module _ (s : List ℕ) (size : ℕ) where
  -- bytes that stand at a place
  pub front : {at : ℕ} (b u : List ℕ) → at ≤ length s → drop at s ≡ b ++ u → (at + length b ≤ length s) × (part s at (length b) ≡ b) × (u ≡ drop (at + length b) s)
  front {at} b u h e =
      let l = length-drop at s in
      let m = ap length e in
      let n = length-append b u in
      (omega arith, ap (take (length b)) e ∙ take_at b u (length b) refl, sym (sym (drop-drop (length b) at s) ∙ ap (drop (length b)) e ∙ drop_at b u (length b) refl))

  front_at : (at : ℕ) (b u : List ℕ) (i : ℕ) → drop at s ≡ b ++ u → i < length b → get_or s (at + i) 0 ≡ get_or b i 0
  front_at at b u i e h = sym (get_or-drop at s i 0) ∙ ap (λ (l : List ℕ). get_or l i 0) e ∙ get_or-append b u 0 i h

  module _ {at : ℕ} (start : at ≤ length s) where
    word-complete : {u : List ℕ} (k v : ℕ) → v < 256 ^ k → drop at s ≡ spelled k v ++ u → Spelt s k at (word k s size at) u v
    word-complete {u} k v h e =
        let f = front (spelled k v) u start e in
        let l = length-spelled k v in
        let i : at + k ≤ length s = let j = f.0 in omega arith in
        record { taken = word_got k s size at i (sym (be-spelled k v s u at e h)); rest = f.2 ∙ ap (λ (n : ℕ). drop (at + n) s) l; inside = i }

    pub non_neg-complete : {u : List ℕ} {v : ℕ} (k : ℕ) → NonNeg k (drop at s) u v → Spelt s k at (non_negative k s size at) u v
    non_neg-complete {u} {v} k (non_neg h e) =
        let w = word-complete k v (let f = half-fits k in omega arith) e in
        record { taken = non_negative-got k s size at w.taken h; rest = w.rest; inside = w.inside }

    pub nelems-complete : {u : List ℕ} {v : ℕ} (capacity k : ℕ) → v ≤ capacity → NonNeg k (drop at s) u v → Spelt s k at (nelems capacity k s size at) u v
    nelems-complete capacity k l d = let w = non_neg-complete k d in record { taken = nelems-got k s size at capacity w.taken l; rest = w.rest; inside = w.inside }

    pub numrecs-complete : {u : List ℕ} {v : ℕ} (k : ℕ) → Numrecs k (drop at s) u v → Spelt s k at (open_count k s size at) u v
    numrecs-complete {u} {v} k (known (non_neg h e)) =
        let w = word-complete k v (let f = half-fits k in omega arith) e in
        record { taken = open_count-got k s size at w.taken h; rest = w.rest; inside = w.inside }
    numrecs-complete {u} {v} k (streaming o e) =
        let w = word-complete k v (let f = open-fits k in omega arith) e in
        record { taken = open_count-open k s size at w.taken o; rest = w.rest; inside = w.inside }

    signed-complete : {u : List ℕ} {v : ℕ} (k : ℕ) → NonNeg k (drop at s) u v → Spelt s k at (signed k s size at) u v
    signed-complete {u} {v} k (non_neg h e) =
        let w = word-complete k v (let f = half-fits k in omega arith) e in
        record { taken = signed-got k s size at w.taken (extended-low k v h); rest = w.rest; inside = w.inside }

    pub offset-complete : {u : List ℕ} {v : ℕ} (f : Form) → Offset f (drop at s) u v → Spelt s f.begin_bytes at (signed f.begin_bytes s size at) u v
    offset-complete f (int w d) = rw w (signed-complete 4 d)
    offset-complete f (int64 w d) = rw w (signed-complete 8 d)

    pub type-complete : {u : List ℕ} {c : ℕ} (f : Form) → f.codes < 2147483648 → NcType f (drop at s) u c → Spelt s 4 at (data_type f.codes s size at) u c
    type-complete {u} {c} f b (nc_type l h e) =
        let w = non_neg-complete {v = c} 4 (non_neg (omega arith) e) in
        record { taken = type-got f.codes s size at w.taken l h refl; rest = w.rest; inside = w.inside }

    pub padding-complete : {u : List ℕ} (n : ℕ) → Padding n (drop at s) u → Taken s (zero_padding n s size at) u tt
    padding-complete {u} n (nulls e) =
        let k = padding n in
        let f = front (replicate k 0) u start e in
        let l = length-replicate {A = ℕ} k 0 in
        let z = zeros-all k s at (λ i h. front_at at (replicate k 0) u i e (omega arith) ∙ get_or-replicate k i 0 0 h) in
        let i : at + k ≤ length s = let j = f.0 in omega arith in
        record { end = at + k; taken = padding-got n s size at refl i z; rest = f.2 ∙ ap (λ (m : ℕ). drop (at + m) s) l; inside = i }

  -- bytes and their padding, at a place
  padded-complete : {u : List ℕ} (b : List ℕ) (at : ℕ) → at ≤ length s → Padded b (drop at s) u
      → (at + length b ≤ length s) × (part s at (length b) ≡ b) × Taken s (zero_padding (length b) s size (at + length b)) u tt
  padded-complete b at h (bytes {t} e p) =
      let f = front b t h e in
      (f.0, f.1, padding-complete f.0 (length b) (rw f.2 at p))

  pub name-complete : {u : List ℕ} (f : Form) (at : ℕ) (n : List ℕ) → at ≤ length s → IsShort n → Name f (drop at s) u n
      → Taken s (name_step f.word_bytes s size at) u (length n) × (part s (at + f.word_bytes) (length n) ≡ n)
  name-complete {u} f at n h l (name {t} c v p) =
      let k = f.word_bytes in
      let w = nelems-complete h longest_name k l c in
      let b = padded-complete n (at + k) w.inside (rw w.rest at p) in
      let z = b.2 in
      let q = name_bytes-got (length n) s size (at + k) b.0 (rw b.1 v) in
      (record { end = z.end; taken = name-got k s size at w.taken q z.taken; rest = z.rest; inside = z.inside }, b.1)

  values-complete : {u : List ℕ} (count width : ℕ) (b : List ℕ) (at : ℕ) → at ≤ length s → length b ≡ count * width → Padded b (drop at s) u
      → Taken s (values count width s size at) u tt × (part s at (count * width) ≡ b)
  values-complete count width b at h l p =
      let q = padded-complete b at h p in
      let z = q.2 in
      (record { end = z.end; taken = values-then count width s size at (rw (← l) q.0) (rw (← l) z.taken); rest = z.rest; inside = z.inside }, rw (← l) q.1)

  -- a list's start is taken, and its items are left
  pub start-complete : {A : Type 0} {u : List ℕ} (f : Form) (tag room at : ℕ) (R : List ℕ → List ℕ → A → Type 0) (xs : List A) → at ≤ length s → 0 < tag → 4 ≤ f.absent_bytes → length xs ≤ room
      → Listed f tag R (drop at s) u xs → (e : ℕ) × (got (length xs) e ≡ list_start f.absent_bytes f.word_bytes tag room s size at) × (e ≤ length s) × Sequence R (drop e s) u xs
  start-complete {A} {u} f tag room at R xs h t l m (absent z e) =
      let k = f.absent_bytes in
      let b = front (replicate k 0) u h e in
      let r = length-replicate {A = ℕ} k 0 in
      let i : at + k ≤ length s = let j = b.0 in omega arith in
      let all = begins-all (replicate k 0) s at (λ i n. inr (front_at at (replicate k 0) u i e n)) in
      rw z (at + k, start-absent k f.word_bytes tag room s size at (sym all) i, i, rw (b.2 ∙ ap (λ (n : ℕ). drop (at + n) s) r) (none (drop (at + k) s)))
  start-complete {A} {u} f tag room at R xs h t l m (tagged {t = v} e d q) =
      let k = f.absent_bytes in
      let b = front (tag_bytes tag) v h e in
      let r = length-replicate {A = ℕ} k 0 in
      let byte : get_or s (at + 3) 0 ≡ tag = front_at at (tag_bytes tag) v 3 e (omega arith) in
      let not = begins-not (replicate k 0) s at 3 (omega arith) (let j = b.0 in omega arith) (λ z. let y : get_or (replicate {A = ℕ} k 0) 3 0 ≡ 0 = get_or-replicate k 3 0 0 (omega arith) in omega arith) in
      let all = begins-all (tag_bytes tag) s at (λ i n. inr (front_at at (tag_bytes tag) v i e n)) in
      let c = nelems-complete b.0 room f.word_bytes m (rw b.2 at d) in
      (at + 4 + f.word_bytes, start-tag k f.word_bytes tag room s size at (sym not) (sym all) c.taken, c.inside, rw c.rest at q)

  -- items are taken, one after the other, where what is left to read may depend on those before
  pub items-complete : {A B : Type 0} {u : List ℕ} (g : List A → ℕ → Step A) (mean : A → B) (R : List ℕ → List ℕ → B → Type 0) (K : List A → List B → Type 0)
      → ((xs : List A) (y : B) (ys : List B) (p : ℕ) (t : List ℕ) → p ≤ length s → K xs (y ∷ ys) → R (drop p s) t y → (x : A) × Taken s (g xs p) t x × (mean x ≡ y) × K (xs ++ (x ∷ [])) ys)
      → (xs : List A) (ys : List B) (at : ℕ) → at ≤ length s → K xs ys → Sequence R (drop at s) u ys → (zs : List A) × Taken s (items g (length ys) xs at) u (xs ++ zs) × (map mean zs ≡ ys)
  unfolding items
  items-complete {A} g mean R K h xs [] at i k (none _) = ([], record { end = at; taken = ap (λ (l : List A). got l at) (append-nil xs); rest = refl; inside = i }, refl)
  items-complete {A} {B} {u} g mean R K h xs (y ∷ ys) at i k (more {t = t} d q) =
      let a = h xs y ys at t i k d in
      let b = a.1 in
      let r = items-complete g mean R K h (xs ++ (a.0 ∷ [])) ys b.end b.inside a.3 (rw b.rest at q) in
      let c = r.1 in
      let all : got (xs ++ (a.0 ∷ r.0)) c.end ≡ items g (length ys) (xs ++ (a.0 ∷ [])) b.end = ap (λ (l : List A). got l c.end) (sym (append_assoc xs (a.0 ∷ []) r.0)) ∙ c.taken in
      (a.0 ∷ r.0, record { end = c.end; taken = by-got _ _ b.taken all; rest = c.rest; inside = c.inside }, cong a.0 r.0 a.2 r.2)
    where
      cong : {b : B} {r : List B} (a : A) (l : List A) → mean a ≡ b → map mean l ≡ r → map mean (a ∷ l) ≡ b ∷ r
      cong a l p q = cc

  -- a whole list
  pub listed-complete : {A B : Type 0} {u : List ℕ} (f : Form) (tag room at : ℕ) (g : List A → ℕ → Step A) (mean : A → B) (R : List ℕ → List ℕ → B → Type 0) (K : List A → List B → Type 0)
      → ((xs : List A) (y : B) (ys : List B) (p : ℕ) (t : List ℕ) → p ≤ length s → K xs (y ∷ ys) → R (drop p s) t y → (x : A) × Taken s (g xs p) t x × (mean x ≡ y) × K (xs ++ (x ∷ [])) ys)
      → (ys : List B) → at ≤ length s → 0 < tag → 4 ≤ f.absent_bytes → length ys ≤ room → K [] ys → Listed f tag R (drop at s) u ys
      → (zs : List A) × Taken s (bind (list_start f.absent_bytes f.word_bytes tag room s size at) (λ n p. items g n [] p)) u zs × (map mean zs ≡ ys)
  listed-complete f tag room at g mean R K h ys i t a l k d =
      let b = start-complete f tag room at R ys i t a l d in
      let r = items-complete g mean R K h [] ys b.0 b.2 k b.3 in
      let c = r.1 in
      (r.0, record { end = c.end; taken = by-got _ _ b.1 c.taken; rest = c.rest; inside = c.inside }, r.2)

  pub dim-complete : {u : List ℕ} (f : Form) (at : ℕ) (d : Dimension) → at ≤ length s → IsShort d.name → Dim f (drop at s) u d → (x : DimRow) × Taken s (dim_step f s size at) u x × (dimension s x ≡ d)
  unfolding dim_step
  dim-complete f at d h l (dim n e) =
      let a = name-complete f at d.name h l n in
      let p = a.0 in
      let w = non_neg-complete p.inside f.word_bytes (rw p.rest at e) in
      (record { name = at + f.word_bytes; chars = length d.name; length = d.extent }, record { end = p.end + f.word_bytes; taken = by-got _ _ p.taken (by-got _ _ w.taken refl); rest = w.rest; inside = w.inside }, rw a.1 refl)

  pub attr-complete : {u : List ℕ} (f : Form) (at : ℕ) (a : Attribute) → f.codes < 2147483648 → at ≤ length s → IsShort a.name → Attr f (drop at s) u a → (x : AttrRow) × Taken s (attr_step f s size at) u x × (attribute s x ≡ a)
  unfolding attr_step
  attr-complete f at a b h l (attr n t c e v) =
      let y = name-complete f at a.name h l n in
      let p = y.0 in
      let q = type-complete p.inside f b (rw p.rest at t) in
      let r = non_neg-complete q.inside f.word_bytes (rw q.rest at c) in
      let w = values-complete a.count (size_of a.code) a.values (p.end + 4 + f.word_bytes) r.inside e (rw r.rest at v) in
      let z = w.0 in
      (record { name = at + f.word_bytes; chars = length a.name; code = a.code; count = a.count; values = p.end + 4 + f.word_bytes }, record { end = z.end; taken = by-got _ _ p.taken (by-got _ _ q.taken (by-got _ _ r.taken (by-got _ _ z.taken refl))); rest = z.rest; inside = z.inside }, rw (y.1, w.1) refl)

  pub attrs-complete : {u : List ℕ} (f : Form) (used at : ℕ) (xs : List Attribute) → f.codes < 2147483648 → 4 ≤ f.absent_bytes → at ≤ length s → used + length xs ≤ max_attrs → AreShort xs → AttList f (drop at s) u xs
      → (zs : List AttrRow) × Taken s (attr_list f s size used at) u zs × (map (attribute s) zs ≡ xs)
  unfolding attr_list
  attrs-complete f used at xs b c h l k d =
      listed-complete f 0x0C (max_attrs - used) at (λ _. attr_step f s size) (attribute s) (Attr f) (λ _ ys. AreShort ys)
      (λ _ y ys p t i j e. let r = attr-complete f p y b i j.0 e in (r.0, r.1, r.2, j.1)) xs h (omega arith) c (omega arith) k d

  pub var-complete : {u : List ℕ} (f : Form) (used at : ℕ) (v : Variable) → f.codes < 2147483648 → 4 ≤ f.absent_bytes → at ≤ length s → used + length v.attributes ≤ max_attrs → VarFits v → Var f (drop at s) u v
      → (x : VarItem) × Taken s (var_step f s size used at) u x × (variable s x ≡ v)
  unfolding var_step
  var-complete f used at v b c h l k (var n r is xs t z o) =
      let w = f.word_bytes in
      let y = name-complete f at v.name h k.name n in
      let p = y.0 in
      let q = nelems-complete p.inside max_rank w k.rank (rw p.rest at r) in
      let i = items-complete (λ _. non_negative w s size) (λ x. x) (NonNeg w) (λ _ _. Unit)
      (λ _ y ys p t i _ e. let r = non_neg-complete i w e in (y, record { end = p + w; taken = r.taken; rest = r.rest; inside = r.inside }, refl, tt))
      [] v.ids (p.end + w) q.inside tt (rw q.rest at is) in
      let j = i.1 in
      let e = attrs-complete f used j.end v.attributes b c j.inside l k.attributes (rw j.rest at xs) in
      let m = e.1 in
      let a = type-complete m.inside f b (rw m.rest at t) in
      let d = numrecs-complete a.inside w (rw a.rest at z) in
      let g = offset-complete d.inside f (rw d.rest at o) in (
        record { name = at + w; chars = length v.name; ids = i.0; attrs = e.0; code = v.code; vsize = v.vsize; begin = v.begin },
        record {
          end = m.end + 4 + w + f.begin_bytes;
          taken = by-got _ _ p.taken (by-got _ _ q.taken (by-got _ _ j.taken (by-got _ _ m.taken (by-got _ _ a.taken (by-got _ _ d.taken (by-got _ _ g.taken refl))))));
          rest = g.rest;
          inside = g.inside;
        },
        λ j. record { name = y.1 j; ids = (sym (map_same i.0) ∙ i.2) j; attributes = e.2 j; code = v.code; vsize = v.vsize; begin = v.begin },
      )
    where
      map_same : (l : List ℕ) → map (λ x. x) l ≡ l
      map_same [] = refl
      map_same (x ∷ l) = ap (λ (r : List ℕ). x ∷ r) (map_same l)

  pub vars-complete : {u : List ℕ} (f : Form) (used at : ℕ) (vs : List Variable) → f.codes < 2147483648 → 4 ≤ f.absent_bytes → at ≤ length s → length vs ≤ max_vars → used + length (attributes_of vs) ≤ max_attrs
      → EachIs VarFits vs → VarList f (drop at s) u vs → (zs : List VarItem) × Taken s (var_list f s size used at) u zs × (map (variable s) zs ≡ vs)
  unfolding var_list attributes_of attrs_of
  vars-complete f used at vs b c h n l k d =
      listed-complete f 0x0B max_vars at (λ xs. var_step f s size (used + length (attrs_of xs))) (variable s) (Var f)
      (λ xs ys. (used + length (attrs_of xs) + length (attributes_of ys) ≤ max_attrs) × EachIs VarFits ys)
      (λ xs y ys p t i j e.
      let m = length-append y.attributes (attributes_of ys) in
      let r = var-complete f (used + length (attrs_of xs)) p y b c i (let q = j.0 in omega arith) j.1.0 e in
      let o = ap length (attrs_of-more xs r.0) ∙ length-append (attrs_of xs) r.0.attrs in
      let g : length r.0.attrs ≡ length y.attributes = sym (length-map r.0.attrs (attribute s)) ∙ ap (λ (v : Variable). length v.attributes) r.2 in
      (r.0, r.1, r.2, (let q = j.0 in omega arith, j.1.1)))
      vs h (omega arith) c n (omega arith, k) d

  magic-of : (a : Admitted) (v : ℕ) (u : List ℕ) → admits a v ≡ true → s ≡ 0x43 ∷ 0x44 ∷ 0x46 ∷ v ∷ u → (got tt 3 ≡ magic s size) × (got v 4 ≡ version_byte a s size 3) × (u ≡ drop 4 s) × (4 ≤ length s)
  magic-of a v u k e =
      let l = ap length e in
      let all = begins-all cdf s 0 (λ i h. inr (front_at 0 cdf (v ∷ u) i e h)) in
      let byte : v ≡ get_or s 3 0 = sym (ap (λ (x : List ℕ). get_or x 3 0) e) in
      (magic-got s size (sym all) (omega arith), version_byte-got a s size 3 (omega arith) byte (sym k), sym (ap (drop 4) e), omega arith)

  magic-complete : {u : List ℕ} {v : ℕ} (a : Admitted) → admits a v ≡ true → Magic s u v → (got tt 3 ≡ magic s size) × (got v 4 ≡ version_byte a s size 3) × (u ≡ drop 4 s) × (4 ≤ length s)
  magic-complete {u} {v} a k (classic w e) = magic-of a v u k (e ∙ ap (λ (x : ℕ). 0x43 ∷ 0x44 ∷ 0x46 ∷ x ∷ u) (sym w))
  magic-complete {u} {v} a k (offset64 w e) = magic-of a v u k (e ∙ ap (λ (x : ℕ). 0x43 ∷ 0x44 ∷ 0x46 ∷ x ∷ u) (sym w))

  -- a header that the rules derive is read, where its version is admitted and the capacities allow it
  pub header-complete : {u : List ℕ} {m : Contents} (a : Admitted) → admits a m.version ≡ true → Fits m → Header s u m → (h : Tree) × Taken s (header_step a s size) u h × (contents s h ≡ m) × (h.size ≡ size)
  unfolding header_step contents dim_list
  header-complete {u} {m} a ad k (header g w ds gs vs) =
      let f = form m.version in
      let p = magic-complete a ad g in
      let q = numrecs-complete p.3 f.word_bytes (rw p.2 at w) in
      let r = listed-complete f 0x0A max_dims (4 + f.word_bytes) (λ _. dim_step f s size) (dimension s) (Dim f) (λ _ ys. EachIs (λ (d : Dimension). IsShort d.name) ys)
      (λ _ y ys p t i j e. let r = dim-complete f p y i j.0 e in (r.0, r.1, r.2, j.1))
      m.dimensions q.inside (omega arith) (omega arith) k.dims k.dim_names (rw q.rest at ds) in
      let d = r.1 in
      let l = length-append m.globals (attributes_of m.variables) in
      let n = k.attrs in
      let x = attrs-complete f 0 d.end m.globals (omega arith) (omega arith) d.inside (omega arith) k.global_names (rw d.rest at gs) in
      let y = x.1 in
      let i : length x.0 ≡ length m.globals = sym (length-map x.0 (attribute s)) ∙ ap length x.2 in
      let z = vars-complete f (length x.0) y.end m.variables (omega arith) (omega arith) y.inside k.vars (omega arith) k.variables (rw y.rest at vs) in
      let e = z.1 in (
        tree m.version m.word size r.0 x.0 z.0,
        record {
          end = e.end;
          taken = by-got _ _ p.0 (by-got _ _ p.1 (by-got _ _ q.taken (by-got _ _ d.taken (by-got _ _ y.taken (by-got _ _ e.taken refl)))));
          rest = e.rest;
          inside = e.inside;
        },
        λ i. record { version = m.version; word = m.word; dimensions = r.2 i; globals = x.2 i; variables = z.2 i },
        refl,
      )
