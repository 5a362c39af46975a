-- When widening and narrowing accept, and when narrowing gives 25.
use Prim.Native.Nat.{ℕ, zero, suc, ◌≤◌, ◌<◌}
use native.Mathlib.Omega.{arith}
use mathlib.Core.Path.{◌≡◌, refl, sym, ap, subst, ◌∙◌}
use mathlib.Core.Bool.{Bool, true, false, ◌&&◌, false≢true}
use mathlib.Core.Logic.{◌⊎◌, inl, inr}
use mathlib.Core.List.{List, ◌++◌}
use lib.ListN.{length, drop}
use lib.Dec.{ltb, leb, eqb}
use borrow.Author.Tests.{leb-true, le-leb, le-ltb, lt-ltb, eqb-true, eq-eqb}
use Rattle.cdf.specs.Step.{Step, got, stop, test, need, into, number_of}
use Rattle.cdf.specs.Below.{all_below}
use Rattle.cdf.specs.Magic.{both_versions}
use Rattle.cdf.proofs.Laws.Below.{order, one-fails}
use Rattle.cdf.proofs.Laws.Step.{by-true}
use Rattle.grammar.specs.Tables.{var_at}
use Rattle.grammar.specs.declared.tables.Tables.{Tables}
use Rattle.rules.specs.Encode.{encode}
use Rattle.sizes.specs.Records.{ends_hold, max_position}
use Rattle.order.specs.Writable.{to_write, writable}
use Rattle.header.specs.Header.{read_header}
use Rattle.header.specs.declared.reader.HeaderAnswer.{HeaderAnswer as Header}
use Rattle.header.proofs.Laws.Header.{after_read}
use Rattle.writer.specs.Writes.{write_header}
use Rattle.convert.specs.Convert.{new_end, new_tables, begins_behind, begins_fit, converted, convert}
use Rattle.convert.proofs.Laws.Convert.{by-25, by-writer}
use Rattle.demands.specs.Derived.{AreBytes}
use Rattle.demands.specs.Converted.{Convertible, ConvertedIsWritable, AcceptsExactly, TwentyFiveExactly}
use Rattle.demands.proofs.Converted.{converted-is-writable, new-header-length}

-- a test whose refusal is not the number asked for
passes : {A : Type 0} (b : Bool) (k p n : ℕ) (rest : Step A) → (k ≡ n → ⊥) → number_of (need b k p rest) ≡ n → (b ≡ true) × (number_of rest ≡ n)
unfolding test
passes true k p n rest h e = (refl, e)
passes false k p n rest h e = absurd (h e)

goes_on : {A : Type 0} (b : Bool) (k p n : ℕ) (rest : Step A) → b ≡ true → number_of (need b k p rest) ≡ n → number_of rest ≡ n
unfolding test
goes_on true k p n rest h e = e
goes_on false k p n rest h e = absurd (false≢true h)

into-number : {A B : Type 0} (g : A → B) (y : Step A) → number_of (into g y) ≡ number_of y
unfolding into
into-number g (got x n) = refl
into-number g (stop k p) = refl

module _ (version : ℕ) (s : List ℕ) (size : ℕ) (out : List ℕ) where
  abbrev h : Header
  h = read_header s size both_versions

  after : h.number ≡ 0 → converted version s h out ≡ convert version s size out
  unfolding convert
  after z = after_read h (λ (x : Header). converted version s x out) z

  given : AreBytes s → (z : h.number ≡ 0) (c : Convertible version s h) → new_end version s h ≤ length out
      → convert version s size out ≡ got (record { output = encode (to_write s (new_tables version s h)) ++ drop (new_end version s h) out; size = (new_tables version s h).size }) (new_end version s h)
  unfolding ConvertedIsWritable into write_header
  given bytes z c room =
      let long = new-header-length version s size bytes z c in
      let ok = converted-is-writable version s size bytes z c in
      let w : got (encode (to_write s (new_tables version s h)) ++ drop (length (encode (to_write s (new_tables version s h)))) out) (length (encode (to_write s (new_tables version s h)))) ≡ write_header s (new_tables version s h) out =
      by-true _ ok (by-true _ (le-leb (length (encode (to_write s (new_tables version s h)))) (length out) (omega arith)) refl) in
      let v = sym w ∙ ap (λ (n : ℕ). got (encode (to_write s (new_tables version s h)) ++ drop n out) n) long in
      sym (after z) ∙ sym (by-writer version s h out c.behind c.begins c.size c.ends) ∙ ap (into (λ o. record { output = o; size = (new_tables version s h).size })) v

  header-passes : (b : Bool) → eqb h.number 0 ≡ b → number_of (test b (converted version s h out) (stop h.number h.place)) ≡ 0 → (h.number ≡ 0) × (number_of (converted version s h out) ≡ 0)
  unfolding test
  header-passes true q e = (eqb-true h.number 0 q, e)
  header-passes false q e = absurd (false≢true (sym q ∙ eq-eqb h.number 0 e))

  taken : AreBytes s → (version ≡ 1) ⊎ (version ≡ 2) → number_of (convert version s size out) ≡ 0 → (h.number ≡ 0) × Convertible version s h × (new_end version s h ≤ length out)
  unfolding convert converted write_header
  taken bytes known e =
      let a = header-passes (eqb h.number 0) refl e in
      let b = passes (begins_behind version s h) 24 0 0 _ (λ z. omega arith) a.1 in
      let d = passes (begins_fit version s h) 25 0 0 _ (λ z. omega arith) b.1 in
      let f = passes (leb (new_tables version s h).size max_position) 21 0 0 _ (λ z. omega arith) d.1 in
      let g = passes (ends_hold (new_tables version s h) (new_tables version s h).count) 15 0 0 _ (λ z. omega arith) f.1 in
      let w = sym (into-number _ (write_header s (new_tables version s h) out)) ∙ g.1 in
      let k = passes (writable s (new_tables version s h)) 23 0 0 _ (λ z. omega arith) w in
      let l = passes (leb (length (encode (to_write s (new_tables version s h)))) (length out)) 22 0 0 _ (λ z. omega arith) k.1 in
      let c : Convertible version s h = record { known = known; behind = b.0; begins = d.0; size = leb-true _ _ f.0; ends = g.0 } in
      (a.0, c, subst (λ (n : ℕ). n ≤ length out) (new-header-length version s size bytes a.0 c) (leb-true _ _ l.0))

pub accepts-exactly : AcceptsExactly
unfolding AcceptsExactly
accepts-exactly version s size out bytes known = (given version s size out bytes, taken version s size out bytes known)

-- where not all hold, one does not
one-not : (p : ℕ → Bool) (n : ℕ) → all_below n p ≡ false → (i : ℕ) × (i < n) × (p i ≡ false)
unfolding all_below
one-not p zero e = absurd (false≢true (sym e))
one-not p (suc n) e = by (all_below n p) refl (one-not p n) e
  where
    by : (b : Bool) → all_below n p ≡ b → (all_below n p ≡ false → (i : ℕ) × (i < n) × (p i ≡ false)) → (all_below n p && p n) ≡ false → (i : ℕ) × (i < suc n) × (p i ≡ false)
    by true q f g = (n, omega arith, sym (rw q refl) ∙ g)
    by false q f g = let r = f q in (r.0, (let l = r.1 in omega arith), r.2)

module _ (s : List ℕ) (size : ℕ) (out : List ℕ) (z : (read_header s size both_versions).number ≡ 0) (a : begins_behind 1 s (read_header s size both_versions) ≡ true) where
  abbrev u : Tables
  u = new_tables 1 s (read_header s size both_versions)

  gives-25 : (i : ℕ) → i < u.nvars → 2147483647 < (var_at u i).begin → convert 1 s size out ≡ stop 25 0
  gives-25 i l far =
      let b = one-fails (λ j. ltb (var_at u j).begin 2147483648) u.nvars i l (le-ltb (var_at u i).begin 2147483648 (omega arith)) in
      sym (after 1 s size out z) ∙ sym (by-25 1 s (read_header s size both_versions) out a b)

  never-25 : begins_fit 1 s (read_header s size both_versions) ≡ true → number_of (converted 1 s (read_header s size both_versions) out) ≡ 25 → ⊥
  unfolding converted write_header
  never-25 b e =
      let d = goes_on (begins_fit 1 s (read_header s size both_versions)) 25 0 25 _ b (goes_on (begins_behind 1 s (read_header s size both_versions)) 24 0 25 _ a e) in
      let f = passes (leb u.size max_position) 21 0 25 _ (λ q. omega arith) d in
      let g = passes (ends_hold u u.count) 15 0 25 _ (λ q. omega arith) f.1 in
      let w = sym (into-number _ (write_header s u out)) ∙ g.1 in
      let k = passes (writable s u) 23 0 25 _ (λ q. omega arith) w in
      let l = passes (leb (length (encode (to_write s u))) (length out)) 22 0 25 _ (λ q. omega arith) k.1 in
      let n = l.1 in
      omega arith

  comes-from : number_of (convert 1 s size out) ≡ 25 → (i : ℕ) × (i < u.nvars) × (2147483647 < (var_at u i).begin)
  comes-from e = by (begins_fit 1 s (read_header s size both_versions)) refl
    where
      by : (b : Bool) → begins_fit 1 s (read_header s size both_versions) ≡ b → (i : ℕ) × (i < u.nvars) × (2147483647 < (var_at u i).begin)
      by true q = absurd (never-25 q (ap number_of (after 1 s size out z) ∙ e))
      by false q = let r = one-not (λ j. ltb (var_at u j).begin 2147483648) u.nvars q in (r.0, r.1, far (order (var_at u r.0).begin 2147483647) r.2)
        where
          far : {x : ℕ} → (x ≤ 2147483647) ⊎ (2147483647 < x) → ltb x 2147483648 ≡ false → 2147483647 < x
          far {x} (inl k) h = absurd (false≢true (sym h ∙ lt-ltb x 2147483648 (omega arith)))
          far (inr k) h = k

pub twenty-five-exactly : TwentyFiveExactly
unfolding TwentyFiveExactly
twenty-five-exactly s size out z a = (gives-25 s size out z a, comes-from s size out z a)
