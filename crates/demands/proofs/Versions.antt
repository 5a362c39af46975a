-- A reader that admits one version.
use Prim.Native.Nat.{ℕ, ◌≤◌, ◌<◌}
use native.Mathlib.Omega.{arith}
use native.Mathlib.Nat.{zero-add}
use mathlib.Core.Path.{◌≡◌, refl, sym, ap, ◌∙◌}
use mathlib.Core.Bool.{Bool, true, false, ◌&&◌, ◌||◌}
use mathlib.Core.Logic.{◌⊎◌, inl, inr, ⊎_elim}
use mathlib.Core.List.{List}
use lib.ListN.{length, get_or, take}
use lib.Seq.{get_or-take, ext_get_or, length-take-le}
use lib.Dec.{leb, eqb}
use borrow.Author.Tests.{le-leb, lt-leb, ne_eqb, eqb-true, eqb-false}
use Rattle.cdf.specs.Step.{Step, got, stop, bind, test, into, unfinished}
use Rattle.cdf.specs.Form.{form}
use Rattle.cdf.specs.Word.{open_count}
use Rattle.cdf.specs.Magic.{cdf, begins, magic, both_versions, admits, version_byte}
use Rattle.cdf.specs.declared.version.Admitted.{Admitted}
use Rattle.cdf.proofs.Laws.Below.{order}
use Rattle.cdf.proofs.Laws.Step.{by-got, by-stop, into-stop}
use Rattle.cdf.proofs.Laws.Magic.{begins-all, begins-at, magic-got, version_byte-bad}
use Rattle.grammar.specs.Tables.{laid}
use Rattle.grammar.specs.Tree.{Tree}
use Rattle.grammar.specs.Grammar.{header}
use Rattle.grammar.specs.Inner.Parts.{lists}
use Rattle.header.specs.Header.{refusal, answer, judged, read_header}
use Rattle.sizes.specs.Records.{max_position}
use Rattle.header.proofs.Laws.Header.{read-stops}
use Rattle.grammar.specs.declared.tables.Tables.{Tables}
use Rattle.header.proofs.Laws.Refusals.{Refuses, gives, stops, bind-refuses, test-refuses, into-refuses, short, open_count-refuses, lists-refuse, judged-refuses}
use Rattle.demands.specs.Versions.{only, Another, OneVersion}

-- a number other than 4
abbrev Not4 : ℕ → Type 0
Not4 k = k ≡ 4 → ⊥

no1 : Not4 1
no1 z = omega arith

no2 : Not4 2
no2 z = omega arith

no5 : Not4 5
no5 z = omega arith

no6 : Not4 6
no6 z = omega arith

no7 : Not4 7
no7 z = omega arith

no8 : Not4 8
no8 z = omega arith

no9 : Not4 9
no9 z = omega arith

no10 : Not4 10
no10 z = omega arith

answer-not4 : (m : Step Tables) → Refuses Not4 m → (answer m).number ≡ 4 → ⊥
unfolding answer refusal
answer-not4 (got t e) (gives _ _) h = let z : ◌≡◌ {A = ℕ} 0 4 = h in omega arith
answer-not4 (stop k p) (stops _ _ n) h = n h

-- a byte is a number or another
decide : (a b : ℕ) → (a ≡ b) ⊎ (a ≡ b → ⊥)
decide a b = split (eqb a b) refl
  where
    split : (t : Bool) → eqb a b ≡ t → (a ≡ b) ⊎ (a ≡ b → ⊥)
    split true e = inl (eqb-true a b e)
    split false e = inr (eqb-false a b e)

-- the one version is admitted as by the full reader, any other is not
admits-own : (v b : ℕ) → (v ≡ 1) ⊎ (v ≡ 2) → b ≡ v → admits (only v) b ≡ admits both_versions b
unfolding admits
admits-own v b (inl e) f = rw (f, e)
admits-own v b (inr e) f = rw (f, e)

admits-yes : (v b : ℕ) → (v ≡ 1) ⊎ (v ≡ 2) → b ≡ v → admits (only v) b ≡ true
unfolding admits
admits-yes v b (inl e) f = rw (f, e)
admits-yes v b (inr e) f = rw (f, e)

admits-other : (v b : ℕ) → (v ≡ 1) ⊎ (v ≡ 2) → (b ≡ v → ⊥) → false ≡ admits (only v) b
unfolding admits
admits-other v b (inl e) n = rw (e, ne_eqb b 1 (λ f. n (f ∙ sym e))) (second (eqb b 2))
  where
    second : (t : Bool) → false ≡ (t && false)
    second true = refl
    second false = refl
admits-other v b (inr e) n = rw (e, ne_eqb b 2 (λ f. n (f ∙ sym e))) (first (eqb b 1))
  where
    first : (t : Bool) → false ≡ (t && false || false)
    first true = refl
    first false = refl

-- the first three bytes, as a part and as bytes at hand
starts : (s : List ℕ) → take 3 s ≡ cdf → begins cdf s 0 ≡ true
starts s e =
    sym (begins-all cdf s 0 (λ i l. inr (ap (λ (n : ℕ). get_or s n 0) (zero-add i) ∙ sym (get_or-take 3 s i 0 l) ∙ ap (λ (p : List ℕ). get_or p i 0) e)))

begun : (s : List ℕ) → 3 ≤ length s → begins cdf s 0 ≡ true → take 3 s ≡ cdf
begun s h b =
    ext_get_or 0 (take 3 s) cdf (length-take-le 3 s h)
    (λ i l.
    let m : i < 3 = rw (length-take-le 3 s h) at l in
    get_or-take 3 s i 0 m ∙ ap (λ (n : ℕ). get_or s n 0) (sym (zero-add i)) ∙ begins-at cdf s 0 i b m (rw zero-add (omega arith)))

module _ (v : ℕ) (one : (v ≡ 1) ⊎ (v ≡ 2)) (s : List ℕ) (size : ℕ) where
  refused : Another s v → stop 4 3 ≡ header (only v) s size
  unfolding header
  refused a =
      by-got _ _ (magic-got s size (starts s a.starts) (let h = a.four in omega arith))
      (by-stop _ (version_byte-bad (only v) s size 3 a.four refl (admits-other v (get_or s 3 0) one a.other)))

  module _ (same : Another s v → ⊥) where
    same_version : begins cdf s 0 ≡ true → version_byte (only v) s size 3 ≡ version_byte both_versions s size 3
    unfolding version_byte test
    same_version b =
        ⊎_elim
        (λ (h : length s ≤ 3). rw (lt-leb 4 (length s) (omega arith)))
        (λ (h : 3 < length s).
        ⊎_elim
        (λ (e : get_or s 3 0 ≡ v). rw (admits-own v (get_or s 3 0) one e))
        (λ (n : get_or s 3 0 ≡ v → ⊥). absurd (same (record { starts = begun s (omega arith) b; four = h; other = n })))
        (decide (get_or s 3 0) v))
        (order (length s) 3)

    -- what follows the version byte
    rest : ℕ → ℕ → Step Tree
    rest w q = bind (open_count (form w).word_bytes s size q) (λ n r. lists w n s size r)

    after-magic : Admitted → Unit {0} → ℕ → Step Tree
    after-magic a u p = bind (version_byte a s size p) rest

    by-magic : (b c : Bool) → begins cdf s 0 ≡ b
        → bind (test b (test c (got tt 3) (unfinished s size)) (stop 3 0)) (after-magic (only v)) ≡ bind (test b (test c (got tt 3) (unfinished s size)) (stop 3 0)) (after-magic both_versions)
    unfolding bind test unfinished after-magic
    by-magic true true e = ap (λ (m : Step ℕ). bind m rest) (same_version e)
    by-magic true false e = refl
    by-magic false c e = refl

    same-header : header (only v) s size ≡ header both_versions s size
    unfolding header magic after-magic rest lists
    same-header = by-magic (begins cdf s 0) (leb 3 (length s)) refl

    -- and then no step refuses by 4
    rest-not4 : (w q : ℕ) → Refuses Not4 (rest w q)
    unfolding rest
    rest-not4 w q =
        bind-refuses _ _ (open_count-refuses no1 no2 no5 no6 no7 no8 no9 no10 s size _ q) (λ n r. lists-refuse no1 no2 no5 no6 no7 no8 no9 no10 s size w n r)

    version-not4 : begins cdf s 0 ≡ true → Refuses Not4 (version_byte (only v) s size 3)
    unfolding version_byte test
    version-not4 b =
        ⊎_elim
        (λ (h : length s ≤ 3). rw (lt-leb 4 (length s) (omega arith)) (short no1 no2 s size))
        (λ (h : 3 < length s).
        ⊎_elim
        (λ (e : get_or s 3 0 ≡ v). rw (le-leb 4 (length s) (omega arith), admits-yes v (get_or s 3 0) one e) (gives _ _))
        (λ (n : get_or s 3 0 ≡ v → ⊥). absurd (same (record { starts = begun s (omega arith) b; four = h; other = n })))
        (decide (get_or s 3 0) v))
        (order (length s) 3)

    magic-not4 : (b c : Bool) → begins cdf s 0 ≡ b → Refuses Not4 (bind (test b (test c (got tt 3) (unfinished s size)) (stop 3 0)) (after-magic (only v)))
    unfolding bind test unfinished after-magic
    magic-not4 true true e = bind-refuses (version_byte (only v) s size 3) rest (version-not4 e) rest-not4
    magic-not4 true false e = short no1 no2 s size
    magic-not4 false c e = stops 3 0 (λ z. omega arith)

    header-not4 : Refuses Not4 (header (only v) s size)
    unfolding header magic after-magic rest lists
    header-not4 = magic-not4 (begins cdf s 0) (leb 3 (length s)) refl

    read-not4 : (read_header s size (only v)).number ≡ 4 → ⊥
    unfolding read_header
    read-not4 =
        answer-not4 _ (test-refuses _ _ _ (bind-refuses _ _ (into-refuses laid _ header-not4) (judged-refuses (λ z. omega arith) (λ z. omega arith) (λ z. omega arith) (λ z. omega arith) (λ z. omega arith) s)) (stops 21 0 (λ z. omega arith)))

  -- whether the fourth byte is another can be decided
  another : Another s v ⊎ (Another s v → ⊥)
  another = split (begins cdf s 0) refl
    where
      split : (b : Bool) → begins cdf s 0 ≡ b → Another s v ⊎ (Another s v → ⊥)
      split false e = inr (λ a. let z : ◌≡◌ {A = Bool} true false = sym (starts s a.starts) ∙ e in let w : ◌≡◌ {A = ℕ} 0 1 = cc in omega arith)
      split true e =
          ⊎_elim
          (λ (h : length s ≤ 3). inr (λ a. let l = a.four in omega arith))
          (λ (h : 3 < length s).
          ⊎_elim (λ (f : get_or s 3 0 ≡ v). inr (λ a. a.other f)) (λ (n : get_or s 3 0 ≡ v → ⊥). inl (record { starts = begun s (omega arith) e; four = h; other = n })) (decide (get_or s 3 0) v))
          (order (length s) 3)

pub one-version : OneVersion
unfolding OneVersion read_header
one-version v one s size inside small = (
  λ a. sym (read-stops s size (only v) inside small (into-stop laid (refused v one s size a))),
  λ h. ⊎_elim (λ (a : Another s v). a) (λ (n : Another s v → ⊥). absurd (read-not4 v one s size n h)) (another v one s size),
  λ n. ap (λ (m : Step Tree). answer (test (leb (length s) size && leb size max_position) (bind (into laid m) (judged s)) (stop 21 0))) (same-header v one s size n),
)
