-- What holds of reads.
use Prim.Native.Nat.{ℕ, ◌+◌, ◌*◌, ◌≤◌, ◌<◌}
use native.Mathlib.Omega.{arith}
use mathlib.Core.Path.{◌≡◌, refl, sym, ap, subst, ◌∙◌}
use mathlib.Core.Bool.{Bool, true, false, ◌||◌}
use mathlib.Core.List.{List, ◌++◌}
use lib.ListN.{length, get_or, drop, get_or-append}
use lib.Dec.{ltb, leb, eqb}
use borrow.Author.Tests.{le-leb, lt-ltb, ltb-true}
use Rattle.std.specs.Prelude.{Some}
use Rattle.cdf.specs.Step.{Step, got, stop, bind, test, into, number_of, given_or}
use Rattle.cdf.proofs.Laws.Step.{bind-same, by-got, by-true, got_same, refused-given}
use Rattle.bigendian.specs.Lists.{tab, grid}
use Rattle.bigendian.proofs.Laws.Lists.{grid-ext, length-tab, get_or-tab, tab-ext, entry}
use Rattle.grammar.specs.Tables.{var_at}
use Rattle.grammar.specs.declared.tables.Tables.{Tables}
use Rattle.found.specs.Sought.{tables_hold, spread, sought, sought_as}
use Rattle.reads.specs.Kept.{whole_bytes}
use Rattle.reads.specs.Reads.{record_at, element_at, bits, holds, record_read, whole_read}
use Rattle.reads.specs.Element.{value_of, element_of, element_read, element_read_as}
use Rattle.found.specs.declared.variable.Spread.{Spread}
use Rattle.found.proofs.Laws.Sought.{typed-came}
use Rattle.reads.proofs.Laws.Bounded.{found}
use Rattle.reads.proofs.Laws.Element.{element-valued}
use Rattle.reads.proofs.Laws.Reads.{held, held_by, each-held, whole-held, same_number, element-in}
use Rattle.demands.specs.ValueReads.{Accepts, RefusalsLeaveOutputs, IsTyped, AcceptedIsTyped, ElementsAgree, RecordsAgree, WholesAgree, Share, ElementsAreLocal, RecordsAreLocal, WholesAreLocal}

-- ---- refusals
pub refusals-leave-outputs : RefusalsLeaveOutputs
unfolding RefusalsLeaveOutputs
refusals-leave-outputs A out y k new p n = p.1 ∙ refused-given out y (λ z. n (p.0 ∙ z))

-- ---- a read whose variable is known, and a check that an accepting read has passed
bound : {A B : Type 0} {m : Step A} {a : A} {n : ℕ} (f : A → ℕ → Step B) → m ≡ got a n → bind m f ≡ f a n
bound f e = sym (by-got f _ (sym e) refl)

passed : {A : Type 0} {t : Bool} {x : Step A} (k p : ℕ) → (k ≡ 0 → ⊥) → Accepts (test t x (stop k p)) → (t ≡ true) × Accepts x × (test t x (stop k p) ≡ x)
unfolding test
passed {t = true} k p n e = (refl, e, refl)
passed {t = false} k p n e = absurd (n e)

-- ---- the variable of a typed read
module _ (code : ℕ) {B : Type 0} (f : Spread → ℕ → Step B) where
  last : (u : Spread) (c : Bool) → Accepts (bind (test c (got u 0) (stop 17 0)) f) → (v : Spread) × (test c (got u 0) (stop 17 0) ≡ got v 0)
  unfolding bind test
  last u true h = (u, refl)
  last u false h = let z : ◌≡◌ {A = ℕ} 17 0 = h in absurd (omega arith)

  abbrev asked : Spread → Bool → Bool → Step Spread
  asked u a b = bind (test a (test b (got u 0) (stop 16 0)) (stop 23 0)) (λ v _. test (eqb v.code code) (got v 0) (stop 17 0))

  first : (u : Spread) (a b : Bool) → Accepts (bind (asked u a b) f) → (v : Spread) × (asked u a b ≡ got v 0)
  unfolding bind test
  first u true true h = last u (eqb u.code code) h
  first u true false h = let z : ◌≡◌ {A = ℕ} 16 0 = h in absurd (omega arith)
  first u false b h = let z : ◌≡◌ {A = ℕ} 23 0 = h in absurd (omega arith)

  accepted : (t : Tables) (i : ℕ) → Accepts (bind (sought_as code t i) f) → (v : Spread) × IsTyped code t i v
  unfolding sought_as sought
  accepted t i h = first (spread t (var_at t i)) (tables_hold t) (ltb i t.nvars) h

pub accepted-is-typed : AcceptedIsTyped
unfolding AcceptedIsTyped record_read whole_read
accepted-is-typed A F code t s start i out = (λ r. accepted code _ t i, accepted code _ t i)

pub elements-agree : ElementsAgree
unfolding ElementsAgree element_read element_read_as
elements-agree code t s start i r e v is = typed-came code t i (sym is) (λ n f _. bound _ (sym f) ∙ sym (bound _ is))

-- ---- what reads with an output leave
module _ {A : Type 0} (F : ℕ → A) (code : ℕ) (t : Tables) (s : List ℕ) (start i : ℕ) (out : List A) (v : Spread) (is : IsTyped code t i v) where
  module _ (r : ℕ) where
    abbrev inside : Type 0
    inside = holds (length s) start (record_at v r) (v.chunk * v.width) ≡ true

    abbrev leaves : Type 0
    leaves = record_read F code t s start i r out ≡ got (tab (λ e. F (bits v s start r e)) v.chunk ++ drop v.chunk out) 0

    record-passed : Accepts (record_read F code t s start i r out) → (r < v.records) × inside × leaves
    unfolding record_read
    record-passed h =
        let e = bound _ is in
        let a = passed 18 0 (λ z. omega arith) (ap number_of (sym e) ∙ h) in
        let b = passed 20 0 (λ z. omega arith) a.1 in
        let c = passed 22 0 (λ z. omega arith) b.1 in
        (ltb-true _ _ a.0, b.0, e ∙ a.2 ∙ b.2 ∙ c.2)

    record-leaves : r < v.records → inside → v.chunk ≤ length out → leaves
    unfolding record_read
    record-leaves h l m =
        bound _ is ∙ sym (by-true _ (lt-ltb r v.records h) (by-true _ l (by-true _ (le-leb v.chunk (length out) m) refl)))

    record-entry : leaves → (e : ℕ) (z : A) → e < v.chunk → get_or (given_or out (record_read F code t s start i r out)) e z ≡ F (bits v s start r e)
    record-entry l e z h =
        ap (λ (y : Step (List A)). get_or (given_or out y) e z) l
        ∙ get_or-append (tab (λ j. F (bits v s start r j)) v.chunk) (drop v.chunk out) z e (rw length-tab h)
        ∙ get_or-tab (λ j. F (bits v s start r j)) v.chunk e z h

  whole-passed : Accepts (whole_read F code t s start i out)
      → (eqb v.records 0 || holds (length s) start v.begin (whole_bytes v) ≡ true)
      × (whole_read F code t s start i out ≡ got (grid (λ k e. F (bits v s start k e)) v.chunk v.records ++ drop (v.records * v.chunk) out) 0)
  unfolding whole_read
  whole-passed h =
      let e = bound _ is in
      let a = passed 20 0 (λ z. omega arith) (ap number_of (sym e) ∙ h) in
      let b = passed 22 0 (λ z. omega arith) a.1 in
      (a.0, e ∙ a.2 ∙ b.2)

-- ---- agreement
module _ (code : ℕ) (t : Tables) (s : List ℕ) (start i r e : ℕ) (v : Spread) (is : IsTyped code t i v) where
  -- an element of a record that the window holds
  element-inside : r < v.records → e < v.chunk → holds (length s) start (record_at v r) (v.chunk * v.width) ≡ true
      → into Some (element_read_as code t s start i r e) ≡ got (value_of code (bits v s start r e)) 0
  unfolding element_read_as
  element-inside h l inside =
      typed-came code t i (sym is) (λ n f c.
      let a = held (length s) start (record_at v r) (v.chunk * v.width) (sym inside) in
      let b = element-in v e l in
      let m = held_by (length s) start (element_at v r e) v.width (omega arith) (omega arith) in
      let o = found t i f in
      ap (into Some) (bound _ is)
      ∙ element-valued s start r e v o.low o.high
      ∙ sym (by-true _ (lt-ltb r v.records h) (by-true _ (lt-ltb e v.chunk l) (by-true _ m refl)))
      ∙ ap (λ (k : ℕ). got (value_of k (bits v s start r e)) 0) c)

pub records-agree : RecordsAgree
unfolding RecordsAgree
records-agree A F code t s start i r out v is h e z l =
    let p = record-passed F code t s start i out v is r h in
    (element-inside code t s start i r e v is p.0 l p.1, record-entry F code t s start i out v is r p.2 e z l)

pub wholes-agree : WholesAgree
unfolding WholesAgree
wholes-agree A F code t s start i out v is h k room l m =
    let w = whole-passed F code t s start i out v is h in
    let p = record-leaves F code t s start i room v is k l (each-held v (length s) start w.0 k l) m in (
      ap number_of p,
      λ e z b.
          ap (λ (y : Step (List A)). get_or (given_or out y) (k * v.chunk + e) z) w.1
          ∙ entry (λ k e. F (bits v s start k e)) v.chunk v.records out refl k e z l b
          ∙ sym (record-entry F code t s start i room v is k p e z b),
    )

-- ---- locality
module _ (s : List ℕ) (start : ℕ) (s' : List ℕ) (start' : ℕ) (v : Spread) where
  -- the bits of an element whose bytes lie in bytes that are shared
  same_bits : (at n r e : ℕ) → Share s start s' start' at n → at ≤ element_at v r e → element_at v r e + v.width ≤ at + n → bits v s start r e ≡ bits v s' start' r e
  same_bits at n r e h l m =
      let a = held (length s) start at n (sym h.inside) in
      let b = held (length s') start' at n (sym h.inside') in
      same_number v.width s s' start start' (element_at v r e) (omega arith) (omega arith) (λ p c d. h.same p (omega arith) (omega arith))

  same-in-record : (r e : ℕ) → Share s start s' start' (record_at v r) (v.chunk * v.width) → e < v.chunk → bits v s start r e ≡ bits v s' start' r e
  same-in-record r e h l = let a = element-in v e l in same_bits (record_at v r) (v.chunk * v.width) r e h (omega arith) (omega arith)

  same-element : (r e : ℕ) → Share s start s' start' (element_at v r e) v.width → element_of s start r e v ≡ element_of s' start' r e v
  unfolding element_of test
  same-element r e h = rw (h.inside, h.inside', same_bits (element_at v r e) v.width r e h (omega arith) (omega arith))

pub elements-are-local : ElementsAreLocal
unfolding ElementsAreLocal element_read element_read_as
elements-are-local t s start s' start' i r e v is h =
    let q = same-element s start s' start' v r e h in (
      bound _ is ∙ q ∙ sym (bound _ is),
      λ code.
          bind-same (sought_as code t i) _ _ (λ u n f.
          typed-came code t i f (λ m g _.
          let same : v ≡ u = got_same (sym is ∙ sym g) in
          subst (λ (x : Spread). element_of s start r e x ≡ element_of s' start' r e x) same q)),
    )

pub records-are-local : RecordsAreLocal
unfolding RecordsAreLocal record_read test
records-are-local A F code t s start s' start' i r out v is h =
    let q = tab-ext _ _ v.chunk (λ e l. ap F (same-in-record s start s' start' v r e h l)) in
    bound _ is
    ∙ rw (h.inside, h.inside') (ap (λ (l : List A). test (ltb r v.records) (test (leb v.chunk (length out)) (got (l ++ drop v.chunk out) 0) (stop 22 0)) (stop 18 0)) q)
    ∙ sym (bound _ is)

pub wholes-are-local : WholesAreLocal
unfolding WholesAreLocal whole_read test
wholes-are-local A F code t s start s' start' i out v is h =
    let q = grid-ext _ _ v.chunk v.records (λ k e l m. ap F (same-in-record s start s' start' v k e (h k l) m)) in
    let a = whole-held v (length s) start (λ k l. (h k l).inside) in
    let b = whole-held v (length s') start' (λ k l. (h k l).inside') in
    bound _ is
    ∙ rw (a, b) (ap (λ (l : List A). test (leb (v.records * v.chunk) (length out)) (got (l ++ drop (v.records * v.chunk) out) 0) (stop 22 0)) q)
    ∙ sym (bound _ is)
