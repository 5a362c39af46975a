-- Laws of name lookup.
use Prim.Native.Nat.{ℕ, ◌+◌, ◌≤◌, ◌<◌}
use native.Mathlib.Omega.{arith}
use native.Mathlib.Nat.{zero-add}
use mathlib.Core.Path.{◌≡◌, refl, sym, ap, ◌∙◌}
use mathlib.Core.Bool.{Bool, true, false, ◌&&◌}
use mathlib.Core.List.{List}
use lib.ListN.{length, get_or, take, drop}
use lib.Dec.{leb, eqb}
use borrow.Author.Tests.{lt-ltb, le-ltb, le-leb, lt-leb, leb-true, ltb-true}
use Rattle.cdf.specs.Step.{got, stop}
use Rattle.cdf.specs.Below.{all_below, first_where}
use Rattle.cdf.proofs.Laws.Step.{by-true, by-false, test-came, got_same}
use Rattle.std.specs.Cmp.Lexicographic.{pointwise}
use Rattle.std.proofs.lemmas.List.{get_or-take, get_or-drop, length-take-le, length-drop}
use Rattle.model.proofs.Laws.Rows.{all-same}
use Rattle.model.proofs.Laws.Names.{same-lists}
use Rattle.model.specs.declared.names.Span.{Span}
use Rattle.model.specs.Model.{var_names}
use Rattle.items.specs.Name.{same_bytes}
use Rattle.cdf.proofs.Laws.Below.{both, holds_at, first-none, first-is}
use Rattle.grammar.specs.Tables.{max_vars, var_at}
use Rattle.grammar.specs.declared.tables.Tables.{Tables}
use Rattle.lookup.specs.Lookup.{names_inside, is_named, first_named, find_var, name_of}

-- the n bytes of s from a place are those that are looked for
pub same-part : (s : List ℕ) (at n : ℕ) {m : ℕ} (wanted : List ℕ) → m ≡ n → at + n ≤ length s → pointwise eqb (take m (drop at s)) wanted ≡ (eqb n (length wanted) && same_bytes s at wanted 0 n)
unfolding same_bytes
same-part s at n {m} wanted e h =
    let l : length (take m (drop at s)) ≡ n = length-take-le m (drop at s) (omega (arith, length-drop at s)) ∙ e in
    same-lists (take m (drop at s)) wanted
    ∙ ap (λ (k : ℕ). eqb k (length wanted) && all_below k (λ i. eqb (get_or (take m (drop at s)) i 0) (get_or wanted i 0))) l
    ∙ ap
    (λ (b : Bool). eqb n (length wanted) && b)
    (all-same _ _ n (λ k i. ap (λ (x : ℕ). eqb x (get_or wanted k 0)) (get_or-take m (drop at s) k 0 (omega arith) ∙ get_or-drop at s k 0) ∙ ap (λ (j : ℕ). eqb (get_or s (at + k) 0) (get_or wanted j 0)) (sym (zero-add k))))

module _ (s : List ℕ) (t : Tables) where
  abbrev pub Inside : ℕ → Bool
  Inside i = leb ((var_at t i).name + (var_at t i).chars) (length s)

  pub inside-many : 64 < t.nvars → false ≡ names_inside s t
  unfolding names_inside
  inside-many h = rw (lt-leb t.nvars max_vars h)

  pub inside-is : t.nvars ≤ 64 → all_below t.nvars Inside ≡ names_inside s t
  unfolding names_inside
  inside-is h = rw (le-leb t.nvars max_vars h)

  module _ (inside : names_inside s t ≡ true) where
    pub few : t.nvars ≤ 64
    unfolding names_inside
    few = leb-true t.nvars max_vars (both (leb t.nvars max_vars) (all_below t.nvars Inside) inside).0

    pub name_in : (i : ℕ) → i < t.nvars → (var_at t i).name + (var_at t i).chars ≤ length s
    unfolding names_inside
    name_in i l = leb-true _ _ (holds_at Inside t.nvars i (both (leb t.nvars max_vars) (all_below t.nvars Inside) inside).1 l)

    module _ (wanted : List ℕ) where
      pub found : (i : ℕ) → i < t.nvars → ((k : ℕ) → k < i → is_named s t wanted k ≡ false) → is_named s t wanted i ≡ true → got i 0 ≡ find_var s t wanted
      unfolding find_var first_named
      found i l h e =
          let f : first_where t.nvars (is_named s t wanted) ≡ i = first-is _ t.nvars i l h e in
          by-true _ inside (by-true _ (rw f (lt-ltb i t.nvars l)) (ap (λ (k : ℕ). got k 0) (sym f)))

      pub not_found : ((k : ℕ) → k < t.nvars → is_named s t wanted k ≡ false) → stop 16 0 ≡ find_var s t wanted
      unfolding find_var first_named
      not_found h =
          let f : first_where t.nvars (is_named s t wanted) ≡ t.nvars = first-none _ t.nvars h in
          by-true _ inside (by-false _ (rw f (le-ltb t.nvars t.nvars (omega arith))) refl)

    pub name-past : (i : ℕ) → t.nvars ≤ i → stop 16 0 ≡ name_of s t i
    unfolding name_of
    name-past i h = by-true _ inside (by-false _ (le-ltb i t.nvars h) refl)

    pub name-got : (i : ℕ) → i < t.nvars → got (var_names t i) 0 ≡ name_of s t i
    unfolding name_of
    name-got i h = by-true _ inside (by-true _ (lt-ltb i t.nvars h) refl)

  module _ (outside : names_inside s t ≡ false) where
    pub found-outside : (wanted : List ℕ) → stop 23 0 ≡ find_var s t wanted
    unfolding find_var
    found-outside wanted = by-false _ outside refl

    pub name-outside : (i : ℕ) → stop 23 0 ≡ name_of s t i
    unfolding name_of
    name-outside i = by-false _ outside refl

  -- what is given says that the names lie inside and the variable is one of them
  pub name-says : (i : ℕ) {x : Span} → got x 0 ≡ name_of s t i → (names_inside s t ≡ true) × (i < t.nvars) × (x ≡ var_names t i)
  unfolding name_of
  name-says i e =
      let p = test-came 23 0 e in
      let q = test-came 16 0 p.1 in
      (p.0, ltb-true i t.nvars q.0, got_same q.1)
