-- Laws of what widening and narrowing answer, refusal by refusal.
use Prim.Native.Nat.{ℕ, ◌≤◌, ◌<◌}
use native.Mathlib.Omega.{arith}
use mathlib.Core.Path.{◌≡◌, refl, sym, ap, subst, ◌∙◌}
use mathlib.Core.Bool.{Bool, true, false}
use mathlib.Core.List.{List, ◌++◌}
use lib.ListN.{length, take, drop}
use lib.Dec.{ltb, leb}
use borrow.Author.Tests.{lt-leb, le-leb}
use Rattle.bigendian.specs.Number.{half}
use Rattle.cdf.specs.Below.{all_below}
use Rattle.cdf.specs.Form.{form}
use Rattle.cdf.specs.Magic.{both_versions}
use Rattle.cdf.specs.Step.{Step, got, stop, test, into}
use Rattle.cdf.proofs.Laws.Step.{by-true, by-false}
use Rattle.std.specs.Prelude.{Result, Ok, Err}
use Rattle.std.specs.List.{list_all}
use Rattle.cdf.specs.Refusals.{number}
use Rattle.cdf.specs.declared.refusal.Refusal.{Refusal}
use Rattle.cdf.specs.declared.refusal.Stop.{Stop}
use Rattle.cdf.proofs.Laws.Refusals.{refused}
use Rattle.grammar.specs.declared.tables.Var.{Var}
use Rattle.grammar.specs.Tables.{no_var, var_at}
use Rattle.grammar.specs.declared.tables.Tables.{Tables}
use Rattle.rules.specs.Encode.{encode}
use Rattle.sizes.specs.Records.{ends_hold, max_position}
use Rattle.order.specs.Writable.{to_write, writable}
use Rattle.order.specs.Inner.Lengths.{header_length}
use Rattle.header.specs.Header.{refusal, read_header, after_header, header_of}
use Rattle.header.specs.declared.reader.HeaderAnswer.{HeaderAnswer as Header}
use Rattle.header.proofs.Laws.Header.{after-refused, after_read}
use Rattle.writer.specs.Writes.{write_header, Writes}
use Rattle.convert.specs.Convert.{New, moved, moved_tables, new_tables, begins_behind, begins_fit, converted, convert, answer_of, output_or, converted_of, Converts}
use Rattle.convert.specs.Inner.Read.{Read, stopped, versioned}
use Rattle.convert.specs.declared.convert.Converted.{Converted as Made}
use Rattle.convert.proofs.Laws.Moved.{all-rows}
use Rattle.convert.proofs.Laws.Read.{new-end-is, table-full, table-within, new-facts}

-- what the writer answers: a refusal, which has no place, or bytes
data Answered : Step (List ℕ) → Type 0 where
  refuses : (k : ℕ) → (k ≡ 0 → ⊥) → Answered (stop k 0)
  gives : (o : List ℕ) (n : ℕ) → Answered (got o n)

answered : (s : List ℕ) (t : Tables) (out : List ℕ) → Answered (write_header s t out)
unfolding write_header test
answered s t out = by (writable s t) (leb (length (encode (to_write s t))) (length out))
  where
    by : (b c : Bool)
        → Answered (test b (test c (got (encode (to_write s t) ++ drop (length (encode (to_write s t))) out) (length (encode (to_write s t)))) (stop 22 0)) (stop 23 0))
    by true true = gives _ _
    by true false = refuses 22 (λ z. omega arith)
    by false c = refuses 23 (λ z. omega arith)

writer-refused : (out new : List ℕ) (k : Refusal) {y : Step (List ℕ)} → Answered y → Writes out y (Err k) new → (stop (number k) 0 ≡ y) × (new ≡ out)
writer-refused out new k (refuses i n) p = (ap (λ (j : ℕ). stop j 0) p.0.0, p.0.1)
writer-refused out new k (gives o n) p = absurd (refused k p.0.0)

writer-gave : (out new : List ℕ) (n : ℕ) {y : Step (List ℕ)} → Answered y → Writes out y (Ok n) new → got new n ≡ y
writer-gave out new n (refuses i z) p = absurd (z (sym p.0.0))
writer-gave out new n (gives o m) p = λ i. got (p.0.1 i) (p.1 i)

module _ (version : ℕ) (s : List ℕ) (h : Header) (out : List ℕ) where
  pub stops-with : (k : Refusal) → stop (number k) 0 ≡ converted version s h out → Converts out (converted version s h out) (stopped (Err k)) out
  stops-with k f = (ap answer_of f, ap (output_or out) f)

  pub by-24 : begins_behind version s h ≡ false → stop 24 0 ≡ converted version s h out
  unfolding converted
  by-24 a = by-false _ a refl

  module _ (a : begins_behind version s h ≡ true) where
    pub by-25 : begins_fit version s h ≡ false → stop 25 0 ≡ converted version s h out
    unfolding converted
    by-25 b = by-true _ a (by-false _ b refl)

    module _ (b : begins_fit version s h ≡ true) where
      pub by-21 : max_position < (new_tables version s h).size → stop 21 0 ≡ converted version s h out
      unfolding converted
      by-21 l = by-true _ a (by-true _ b (by-false _ (lt-leb _ _ l) refl))

      module _ (l : (new_tables version s h).size ≤ max_position) where
        pub by-15 : ends_hold (new_tables version s h) (new_tables version s h).count ≡ false → stop 15 0 ≡ converted version s h out
        unfolding converted
        by-15 d = by-true _ a (by-true _ b (by-true _ (le-leb _ _ l) (by-false _ d refl)))

        module _ (d : ends_hold (new_tables version s h) (new_tables version s h).count ≡ true) where
          pub by-writer : into (λ o. record { output = o; size = (new_tables version s h).size }) (write_header s (new_tables version s h) out) ≡ converted version s h out
          unfolding converted
          by-writer = by-true _ a (by-true _ b (by-true _ (le-leb _ _ l) (by-true _ d refl)))

          pub refused-last : {k : Refusal} {w : Result ℕ Refusal} {r : Result Made Refusal} {new : List ℕ} → Writes out (write_header s (new_tables version s h) out) w new → w ≡ Err k → r ≡ Err k → Converts out (converted version s h out) (stopped r) new
          unfolding into
          refused-last {k} {new = new} a e d' =
              let q = writer-refused out new k (answered s (new_tables version s h) out) (subst (λ (w : Result ℕ Refusal). Writes out (write_header s (new_tables version s h) out) w new) e a) in
              let f : stop (number k) 0 ≡ converted version s h out = ap (into (λ o. record { output = o; size = (new_tables version s h).size })) q.0 ∙ by-writer in
              (ap (λ (r : Result Made Refusal). converted_of (stopped r)) d' ∙ ap answer_of f, q.1 ∙ ap (output_or out) f)

          pub given-last : {n m : ℕ} {w : Result ℕ Refusal} {new : List ℕ} → Writes out (write_header s (new_tables version s h) out) w new → w ≡ Ok n → m ≡ (new_tables version s h).size
              → Converts out (converted version s h out) (stopped (Ok (record { length = n; size = m }))) new
          unfolding into
          given-last {n} {new = new} a z e =
              let q = writer-gave out new n (answered s (new_tables version s h) out) (subst (λ (w : Result ℕ Refusal). Writes out (write_header s (new_tables version s h) out) w new) z a) in
              let f : got (record { output = new; size = (new_tables version s h).size }) n ≡ converted version s h out = ap (into (λ o. record { output = o; size = (new_tables version s h).size })) q ∙ by-writer in
              ((λ i. record { number = 0; place = 0; new_length = n; size = e i }) ∙ ap answer_of f, ap (output_or out) f)

-- where no begin lies below the end of the header, seen in the rows
pub behind-is : (version : ℕ) (s : List ℕ) (h : Header) → Read s h → {r : Bool} → r ≡ list_all (λ (v : Var). leb h.end v.begin) (take h.tables.nvars h.tables.vars) → r ≡ begins_behind version s h
behind-is version s h read e =
    let few = (table-within s h read).vars in
    let rows = (table-full s h read).vars in
    e ∙ all-rows (λ (v : Var). leb h.end v.begin) h.tables.vars no_var h.tables.nvars (omega arith)

-- the tables that the code makes are the new ones
module _ (version : ℕ) (s : List ℕ) (h : Header) {u : Tables} where
  pub made : {n : ℕ} → Read s h → n ≡ header_length (versioned version h.tables) → u ≡ moved_tables version (moved h.end n) h.tables → u ≡ new_tables version s h
  made r e f = f ∙ ap (λ (n : ℕ). moved_tables version (moved h.end n) h.tables) (e ∙ new-end-is version s h r)

  module _ (is : u ≡ new_tables version s h) where
    pub made-fit : Read s h → length u.vars ≡ 64 → {limit : ℕ} {r : Bool} → limit ≡ half (form version).begin_bytes → r ≡ list_all (λ (v : Var). ltb v.begin limit) (take u.nvars u.vars) → r ≡ begins_fit version s h
    made-fit read rows {limit} e f =
        let few = (new-facts version s h read is).few in
        f ∙ all-rows (λ (v : Var). ltb v.begin limit) u.vars no_var u.nvars (omega arith)
        ∙ ap (λ (x : Tables). all_below x.nvars (λ i. ltb (var_at x i).begin limit)) is
        ∙ ap (λ (k : ℕ). all_below (new_tables version s h).nvars (λ i. ltb (var_at (new_tables version s h) i).begin k)) e

    pub made-size : u.size ≡ (new_tables version s h).size
    made-size = ap (λ (x : Tables). x.size) is

    pub made_ends : {r : Bool} → r ≡ ends_hold u u.count → r ≡ ends_hold (new_tables version s h) (new_tables version s h).count
    made_ends f = f ∙ ap (λ (x : Tables). ends_hold x x.count) is

    pub made-writes : (out new : List ℕ) (w : Result ℕ Refusal) → Writes out (write_header s u out) w new → Writes out (write_header s (new_tables version s h) out) w new
    made-writes out new w k = subst (λ (x : Tables). Writes out (write_header s x out) w new) is k

-- a file whose header is refused, and one whose header is read
module _ (version : ℕ) (s : List ℕ) (size : ℕ) (out : List ℕ) where
  after : Header → Step New
  after x = converted version s x out

  pub header_refused : (k : Stop) → header_of (Err k) ≡ read_header s size both_versions → Converts out (convert version s size out) (Err k) out
  unfolding convert after refusal
  header_refused k is =
      let h = header_of (Err k) in
      let f = after-refused h after (refused k.why) ∙ ap (λ (x : Header). after_header x after) is in
      (ap answer_of f, ap (output_or out) f)

  pub header_read : {h : Header} (r : Result Made Stop) {new : List ℕ} → h ≡ read_header s size both_versions → h.number ≡ 0 → Converts out (converted version s h out) r new → Converts out (convert version s size out) r new
  unfolding convert after
  header_read {h} r is z p =
      let f = after_read h after z ∙ ap (λ (x : Header). after_header x after) is in
      (p.0 ∙ ap answer_of f, p.1 ∙ ap (output_or out) f)
