-- What an accepted header comes from.
use Prim.Native.Nat.{ℕ, ◌≤◌}
use native.Mathlib.Omega.{arith}
use mathlib.Core.Path.{◌≡◌, refl, sym, ap, subst, ◌∙◌}
use mathlib.Core.Bool.{true, ◌&&◌}
use mathlib.Core.List.{List}
use lib.ListN.{length}
use lib.Dec.{leb}
use borrow.Author.Tests.{leb-true}
use Rattle.cdf.specs.Step.{Step, got, bind, need, into}
use Rattle.cdf.specs.declared.version.Admitted.{Admitted}
use Rattle.cdf.proofs.Laws.Below.{both}
use Rattle.cdf.proofs.Laws.Step.{bind-came, test-came, got_same, into-came}
use Rattle.grammar.specs.Tree.{Tree}
use Rattle.grammar.specs.Tables.{laid, with_count}
use Rattle.grammar.specs.Grammar.{header}
use Rattle.grammar.specs.declared.tables.Tables.{Tables}
use Rattle.model.specs.Model.{names_hold, one_unlimited, id_holds, ids_hold, model_holds}
use Rattle.sizes.specs.Records.{record_size, sizes_hold, ends_hold, max_position}
use Rattle.sizes.specs.Count.{has_unlimited, has_records, first_begin, record_count}
use Rattle.header.specs.Header.{refusal, answer, judged, read_header}
use Rattle.header.specs.declared.reader.HeaderAnswer.{HeaderAnswer as Header}
use Rattle.header.proofs.Laws.Refusals.{Refuses, gives, stops, bind-refuses, test-refuses, into-refuses, header-refuses, judged-refuses}

-- the tree that was read, where it ends, its record count, and every rule that it has met
pub record Came (s : List ℕ) (size : ℕ) (a : Admitted) (h : Header) : Type 0 where
  pub tree : Tree
  pub end : ℕ
  pub count : ℕ
  pub inside : length s ≤ size
  pub small : size ≤ max_position
  pub read : got tree end ≡ header a s size
  pub model : model_holds s (laid tree) ≡ true
  pub sizes : sizes_hold (laid tree) ≡ true
  pub counted : (p : ℕ) × (got count p ≡ record_count (laid tree))
  pub ends : ends_hold (laid tree) count ≡ true
  pub is : h ≡ record { number = 0; place = 0; end = end; tables = with_count (laid tree) count }

-- no step refuses by 0
abbrev Some : ℕ → Type 0
Some k = k ≡ 0 → ⊥

module _ (s : List ℕ) (size : ℕ) (a : Admitted) where
  whole : Step Tables
  whole = need (leb (length s) size && leb size max_position) 21 0 (bind (into laid (header a s size)) (judged s))

  whole-some : Refuses Some whole
  unfolding whole
  whole-some =
      test-refuses _ _ _
      (bind-refuses _ _ (into-refuses laid _ (header-refuses (λ z. omega arith) (λ z. omega arith) (λ z. omega arith) (λ z. omega arith) (λ z. omega arith) (λ z. omega arith) (λ z. omega arith) (λ z. omega arith) s size (λ z. omega arith) (λ z. omega arith) a))
      (λ t e. judged-refuses (λ z. omega arith) (λ z. omega arith) (λ z. omega arith) (λ z. omega arith) (λ z. omega arith) s t e))
      (stops 21 0 (λ z. omega arith))

  -- an answer 0 is that of a step that was taken
  taken : {m : Step Tables} → Refuses Some m → (answer m).number ≡ 0 → (t : Tables) × (e : ℕ) × (got t e ≡ m)
  unfolding answer refusal
  taken (gives t e) h = (t, e, refl)
  taken (stops k p n) h = absurd (n h)

  pub accepted-came : (read_header s size a).number ≡ 0 → Came s size a (read_header s size a)
  unfolding read_header whole judged answer
  accepted-came h =
      let w = taken whole-some h in
      let o = test-came 21 0 w.2 in
      let b = both (leb (length s) size) (leb size max_position) o.0 in
      bind-came _ _ o.1 (Came s size a (answer whole)) (λ t e f g.
      let x = into-came laid _ f in
      let m = test-came 11 0 g in
      let z = test-came 12 0 m.1 in
      bind-came _ _ z.1 (Came s size a (answer whole)) (λ n p c d.
      let y = test-came 15 0 d in
      record {
        tree = x.0;
        end = e;
        count = n;
        inside = leb-true _ _ b.0;
        small = leb-true _ _ b.1;
        read = x.1;
        model = subst (λ (u : Tables). model_holds s u ≡ true) x.2 m.0;
        sizes = subst (λ (u : Tables). sizes_hold u ≡ true) x.2 z.0;
        counted = (p, c ∙ ap record_count x.2);
        ends = subst (λ (u : Tables). ends_hold u n ≡ true) x.2 y.0;
        is = ap answer (sym w.2 ∙ y.1) ∙ ap (λ (u : Tables). answer (got (with_count u n) e)) x.2;
      }))

-- a tree has the file's size
pub tree-size : (s : List ℕ) (size : ℕ) (a : Admitted) {x : Tree} {e : ℕ} → got x e ≡ header a s size → x.size ≡ size
unfolding header
tree-size s size a {x} f =
    bind-came _ _ f (x.size ≡ size) (λ _ _ _ f.
    bind-came _ _ f (x.size ≡ size) (λ _ _ _ f.
    bind-came _ _ f (x.size ≡ size) (λ _ _ _ f.
    bind-came _ _ f (x.size ≡ size) (λ _ _ _ f.
    bind-came _ _ f (x.size ≡ size) (λ _ _ _ f.
    bind-came _ _ f (x.size ≡ size) (λ _ _ _ f. ap (λ (y : Tree). y.size) (got_same f)))))))

-- the rules do not look at the count that the tables get
pub same-model : (s : List ℕ) (t : Tables) (n : ℕ) → model_holds s (with_count t n) ≡ model_holds s t
unfolding model_holds names_hold one_unlimited ids_hold id_holds
same-model s t n = refl

pub same-sizes : (t : Tables) (n : ℕ) → sizes_hold (with_count t n) ≡ sizes_hold t
unfolding sizes_hold record_size
same-sizes t n = refl

pub same_count : (t : Tables) (n : ℕ) → record_count (with_count t n) ≡ record_count t
unfolding record_count has_unlimited has_records first_begin record_size
same_count t n = refl

pub same_ends : (t : Tables) (n k : ℕ) → ends_hold (with_count t n) k ≡ ends_hold t k
unfolding ends_hold record_size
same_ends t n k = refl
