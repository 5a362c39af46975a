-- What the reader's grammar reads lies inside the bytes and within the capacities.
use Prim.Native.Nat.{ℕ, ◌+◌, ◌*◌, ◌≤◌}
use native.Mathlib.Omega.{arith}
use native.Mathlib.Nat.{min-le_left}
use mathlib.Core.Path.{◌≡◌, refl, sym, subst, ◌∙◌}
use mathlib.Core.List.{List, [], ◌∷◌, ◌++◌, map}
use lib.ListN.{length, drop, length-append, length-map, length-take}
use borrow.Author.Tests.{leb-true}
use Rattle.cdf.specs.Step.{Step, got, items}
use Rattle.cdf.specs.Form.{Form, form}
use Rattle.cdf.specs.declared.version.Admitted.{Admitted}
use Rattle.cdf.proofs.Laws.Step.{bind-came, test-came, got_same, items-length, items_keep, into-got}
use Rattle.cdf.proofs.Laws.Word.{nelems-within}
use Rattle.cdf.specs.Word.{word, non_negative, nelems}
use Rattle.items.specs.Name.{longest_name, part, name}
use Rattle.items.specs.Types.{size_of}
use Rattle.items.specs.Values.{values}
use Rattle.grammar.specs.Meaning.{dimension, attribute, variable, contents}
use Rattle.grammar.specs.Tree.{VarItem, Tree, attrs_of}
use Rattle.grammar.specs.Tables.{max_rank, laid}
use Rattle.grammar.specs.Dims.{dim, dim_list}
use Rattle.grammar.specs.Attrs.{attr, attr_list}
use Rattle.grammar.specs.Vars.{var, var_list}
use Rattle.grammar.specs.Grammar.{header}
use Rattle.grammar.specs.declared.tables.Dim.{Dim}
use Rattle.grammar.specs.declared.tables.Attr.{Attr}
use Rattle.grammar.specs.Inner.Within.{Within}
use Rattle.grammar.proofs.Laws.Within.{read-within}
use Rattle.rules.specs.Capacity.{attributes_of}
use Rattle.rules.proofs.Laws.Sound.{got-place, hand-came}
use Rattle.rules.proofs.Laws.Views.{EachIs, IsShort, AreShort, VarFits, Fits}

-- one item more, and items seen through a function
each_more : {A : Type 0} (P : A → Type 0) (xs : List A) (x : A) → EachIs P xs → P x → EachIs P (xs ++ (x ∷ []))
each_more P [] x k h = (h, tt)
each_more P (y ∷ xs) x k h = (k.0, each_more P xs x k.1 h)

pub each_map : {A B : Type 0} (g : A → B) (P : B → Type 0) (xs : List A) → EachIs (λ x. P (g x)) xs → EachIs P (map g xs)
each_map g P [] k = tt
each_map g P (x ∷ xs) k = (k.0, each_map g P xs k.1)

pub each-then : {A : Type 0} {P Q : A → Type 0} → ((x : A) → P x → Q x) → (xs : List A) → EachIs P xs → EachIs Q xs
each-then h [] k = tt
each-then h (x ∷ xs) k = (h x k.0, each-then h xs k.1)

-- items that were read are so where each one is
pub items-each : {A : Type 0} {ys : List A} {e : ℕ} (P : A → Type 0) (g : List A → ℕ → Step A) → ((xs : List A) (x : A) (at q : ℕ) → got x q ≡ g xs at → P x)
    → (n at : ℕ) → got ys e ≡ items g n [] at → EachIs P ys
items-each P g h n at f = items_keep (EachIs P) g (λ xs x p q k c. each_more P xs x k (h xs x p q c)) n [] at tt f

attributes-of : (s : List ℕ) (vs : List VarItem) → length (attributes_of (map (variable s) vs)) ≡ length (attrs_of vs)
unfolding attributes_of attrs_of
attributes-of s [] = refl
attributes-of s (v ∷ vs) =
    let a = length-append (map (attribute s) v.attrs) (attributes_of (map (variable s) vs)) in
    let b = length-append v.attrs (attrs_of vs) in
    let c = length-map v.attrs (attribute s) in
    let d = attributes-of s vs in
    omega arith

counts : (h : Tree) → Within (laid h) → (length h.dims ≤ 32) × (length h.globals + length (attrs_of h.vars) ≤ 128) × (length h.vars ≤ 64)
unfolding laid
counts h w = let l = length-append h.globals (attrs_of h.vars) in (w.dims, (let k = w.attrs in omega arith), w.vars)

-- a name of the bytes s: short, and inside them
pub record NameHeld (s : List ℕ) (at n : ℕ) : Type 0 where
  pub few : n ≤ longest_name
  pub inside : at + n ≤ length s

-- a dimension, an attribute, a variable with its own
abbrev pub DimHeld : List ℕ → Dim → Type 0
DimHeld s d = NameHeld s d.name d.chars

pub record AttrHeld (s : List ℕ) (a : Attr) : Type 0 where
  pub name : NameHeld s a.name a.chars
  pub inside : a.values + a.count * size_of a.code ≤ length s

pub record VarHeld (s : List ℕ) (v : VarItem) : Type 0 where
  pub name : NameHeld s v.name v.chars
  pub rank : length v.ids ≤ max_rank
  pub attrs : EachIs (AttrHeld s) v.attrs

pub record Held (s : List ℕ) (h : Tree) : Type 0 where
  pub dims : EachIs (DimHeld s) h.dims
  pub globals : EachIs (AttrHeld s) h.globals
  pub vars : EachIs (VarHeld s) h.vars

module _ (s : List ℕ) (size : ℕ) where
  word-place : {v e : ℕ} (k at : ℕ) → got v e ≡ word k s size at → e ≡ at + k
  unfolding word
  word-place k at f = got-place (hand-came s size f).1

  nelems-place : {v e : ℕ} (capacity k at : ℕ) → got v e ≡ nelems capacity k s size at → e ≡ at + k
  unfolding nelems non_negative
  nelems-place {v} {e} capacity k at f =
      bind-came _ _ f (e ≡ at + k) (λ x p c g.
      bind-came _ _ c (e ≡ at + k) (λ y q d h. got-place (test-came _ _ g).1 ∙ got-place (test-came _ _ h).1 ∙ word-place k at d))

  name-held : {n e : ℕ} (k at : ℕ) → got n e ≡ name k s size at → NameHeld s (at + k) n
  unfolding name
  name-held {n} {e} k at f =
      bind-came _ _ f (NameHeld s (at + k) n) (λ m p c g.
      let a = hand-came s size g in
      bind-came _ _ (test-came _ _ a.1).1 (NameHeld s (at + k) n) (λ _ q _ h.
      let same : n ≡ m = got_same h in
      let place = nelems-place longest_name k at c in
      let low = nelems-within k s size at longest_name c in
      let l : p + m ≤ length s = leb-true _ _ a.0 in
      record { few = omega arith; inside = omega arith }))

  dim-held : {d : Dim} {e : ℕ} (f : Form) (at : ℕ) → got d e ≡ dim f s size at → DimHeld s d
  unfolding dim
  dim-held {d} f at g =
      bind-came _ _ g (DimHeld s d) (λ n p a h.
      bind-came _ _ h (DimHeld s d) (λ l q b i.
      subst (DimHeld s) (sym (got_same i)) (name-held f.word_bytes at a)))

  attr-held : {x : Attr} {e : ℕ} (f : Form) (at : ℕ) → got x e ≡ attr f s size at → AttrHeld s x
  unfolding attr values
  attr-held {x} f at g =
      bind-came _ _ g (AttrHeld s x) (λ n p a h.
      bind-came _ _ h (AttrHeld s x) (λ code _ _ i.
      bind-came _ _ i (AttrHeld s x) (λ c r _ j.
      bind-came _ _ j (AttrHeld s x) (λ _ _ v k.
      let l = leb-true _ _ (hand-came s size v).0 in
      subst (AttrHeld s) (sym (got_same k)) (record { name = name-held f.word_bytes at a; inside = l })))))

  attrs-held : {xs : List Attr} {e : ℕ} (f : Form) (used at : ℕ) → got xs e ≡ attr_list f s size used at → EachIs (AttrHeld s) xs
  unfolding attr_list
  attrs-held {xs} f used at g =
      bind-came _ _ g (EachIs (AttrHeld s) xs) (λ n p _ h. items-each (AttrHeld s) (λ _. attr f s size) (λ _ x q r i. attr-held f q i) n p h)

  var-held : {x : VarItem} {e : ℕ} (f : Form) (used at : ℕ) → got x e ≡ var f s size used at → VarHeld s x
  unfolding var
  var-held {x} f used at g =
      bind-came _ _ g (VarHeld s x) (λ n p a h.
      bind-came _ _ h (VarHeld s x) (λ k q b i.
      bind-came _ _ i (VarHeld s x) (λ is r c j.
      bind-came _ _ j (VarHeld s x) (λ xs t d l.
      bind-came _ _ l (VarHeld s x) (λ _ _ _ m.
      bind-came _ _ m (VarHeld s x) (λ _ _ _ o.
      bind-came _ _ o (VarHeld s x) (λ _ _ _ u.
      let rank = items-length _ k [] q c in
      let few = nelems-within f.word_bytes s size p max_rank b in
      subst (VarHeld s) (sym (got_same u)) (record { name = name-held f.word_bytes at a; rank = omega arith; attrs = attrs-held f used r d }))))))))

  -- a header that is read lies inside the bytes
  pub read_held : {h : Tree} {e : ℕ} (a : Admitted) → got h e ≡ header a s size → Held s h
  unfolding header dim_list var_list
  read_held {h} {e} a g =
      bind-came _ _ g (Held s h) (λ _ _ _ i.
      bind-came _ _ i (Held s h) (λ v _ _ j.
      bind-came _ _ j (Held s h) (λ _ r _ l.
      bind-came _ _ l (Held s h) (λ ds t b m.
      bind-came _ _ m (Held s h) (λ gs x c o.
      bind-came _ _ o (Held s h) (λ vs y d u.
      let dims = bind-came _ _ b (EachIs (DimHeld s) ds) (λ n p _ q. items-each (DimHeld s) (λ _. dim (form v) s size) (λ _ d q r i. dim-held (form v) q i) n p q) in
      let vars = bind-came _ _ d (EachIs (VarHeld s) vs) (λ n p _ q.
      items-each (VarHeld s) (λ ws. var (form v) s size (length gs + length (attrs_of ws))) (λ ws x q r i. var-held (form v) (length gs + length (attrs_of ws)) q i) n p q) in
      subst (Held s) (sym (got_same u)) (record { dims = dims; globals = attrs-held (form v) 0 t c; vars = vars })))))))

-- and so it fits
module _ (s : List ℕ) where
  short : (at n : ℕ) → NameHeld s at n → IsShort (part s at n)
  short at n h = let l = length-take n (drop at s) in let m = min-le_left n (length (drop at s)) in omega (arith, h.few)

  attrs-short : (xs : List Attr) → EachIs (AttrHeld s) xs → AreShort (map (attribute s) xs)
  attrs-short xs k = each_map (attribute s) _ xs (each-then (λ a h. short a.name a.chars h.name) xs k)

  var-fits : (v : VarItem) → VarHeld s v → VarFits (variable s v)
  var-fits v k = record { name = short v.name v.chars k.name; rank = k.rank; attributes = attrs-short v.attrs k.attrs }

  pub read_fits : {h : Tree} {e : ℕ} (size : ℕ) (a : Admitted) → got h e ≡ header a s size → Fits (contents s h)
  unfolding contents
  read_fits {h} {e} size a g =
      let w = counts h (read-within a s size (into-got laid refl g)) in
      let k = read_held s size a g in
      let dims = length-map h.dims (dimension s) in
      let vars = length-map h.vars (variable s) in
      let all = length-append (map (attribute s) h.globals) (attributes_of (map (variable s) h.vars)) in
      let one = length-map h.globals (attribute s) in
      let rest = attributes-of s h.vars in
      record {
        dims = omega (arith, w.0, dims);
        vars = omega (arith, w.2, vars);
        attrs = omega arith;
        dim_names = each_map (dimension s) _ h.dims (each-then (λ d q. short d.name d.chars q) h.dims k.dims);
        global_names = attrs-short h.globals k.globals;
        variables = each_map (variable s) VarFits h.vars (each-then var-fits h.vars k.vars);
      }
