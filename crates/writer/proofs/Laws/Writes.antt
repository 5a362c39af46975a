-- Laws of what the writer answers.
use Prim.Native.Nat.{ℕ, ◌+◌, ◌≤◌, ◌<◌}
use native.Mathlib.Omega.{arith}
use mathlib.Core.Path.{◌≡◌, refl, sym, ap, ◌∙◌}
use mathlib.Core.Bool.{true, false}
use mathlib.Core.List.{List, ◌++◌}
use lib.ListN.{length, drop}
use lib.Dec.{leb}
use borrow.Author.Tests.{le-leb, lt-leb, leb-true}
use Rattle.std.specs.Prelude.{Ok, Err}
use Rattle.cdf.specs.Step.{got, stop}
use Rattle.cdf.specs.declared.refusal.Refusal.TheVariants.{OutputRoom, Tables as Refused}
use Rattle.cdf.proofs.Laws.Below.{both}
use Rattle.cdf.proofs.Laws.Step.{by-true, by-false, leaves-stop, leaves-got}
use Rattle.grammar.specs.Tables.{attr_at, var_at}
use Rattle.grammar.specs.declared.tables.Tables.{Tables}
use Rattle.rules.specs.Encode.{encode}
use Rattle.order.specs.Writable.{to_write, writable}
use Rattle.order.specs.Inner.Tests.{name_tested, code_tested, attr_tested, size_tested, tested}
use Rattle.order.specs.Inner.Lengths.{header_length}
use Rattle.order.proofs.Laws.Inside.{Inside, inside}
use Rattle.order.specs.Inner.Rows.{FullRows}
use Rattle.order.proofs.Laws.Said.{RowsAre, tested-rows, tested-is}
use Rattle.order.proofs.Laws.Lengths.{encoded-length}
use Rattle.writer.specs.Inner.Parts.{header_out, AttrIn, RowsIn}
use Rattle.writer.specs.Writes.{write_header, length_of, Writes}
use Rattle.writer.proofs.Laws.Whole.{Enough, encode-out}

module _ (s : List ℕ) (t : Tables) (out : List ℕ) where
  pub writes-23 : writable s t ≡ false → Writes out (write_header s t out) (Err Refused) out
  unfolding write_header
  writes-23 e = let f : stop 23 0 ≡ write_header s t out = by-false _ e refl in (leaves-stop out f, ap length_of f)

  pub writes-22 : writable s t ≡ true → length out < length (encode (to_write s t)) → Writes out (write_header s t out) (Err OutputRoom) out
  unfolding write_header
  writes-22 e h = let f : stop 22 0 ≡ write_header s t out = by-true _ e (by-false _ (lt-leb _ _ h) refl) in (leaves-stop out f, ap length_of f)

  pub writes-all : {new : List ℕ} (n : ℕ) → writable s t ≡ true → length (encode (to_write s t)) ≤ length out → n ≡ length (encode (to_write s t)) → new ≡ encode (to_write s t) ++ drop (length (encode (to_write s t))) out
      → Writes out (write_header s t out) (Ok n) new
  unfolding write_header
  writes-all n e h l g =
      let f : got (encode (to_write s t) ++ drop (length (encode (to_write s t))) out) (length (encode (to_write s t))) ≡ write_header s t out = by-true _ e (by-true _ (le-leb _ _ h) refl) in
      let k = leaves-got out f in
      ((k.0, g ∙ k.1), l ∙ ap length_of f)

-- tables that can be written have their rows inside the text
module _ (s : List ℕ) (t : Tables) (full : FullRows t) (ok : writable s t ≡ true) where
  seen : RowsAre s t
  seen = tested-rows s t (both (tested s t) (size_tested t) (tested-is s t full ∙ ok)).0

  rows : Inside s t
  rows = inside seen.rows

  attr-in : (i : ℕ) → i < t.nattrs → attr_tested s (attr_at t i) ≡ true → AttrIn s (attr_at t i)
  unfolding attr_tested
  attr-in i h k =
      let a = attr_at t i in
      let c = (both (code_tested a.code) _ (both (name_tested s a.name a.chars) _ k).1).0 in
      let b = both (leb 1 a.code) (leb a.code 6) c in
      record { name = rows.attrs i h; low = leb-true _ _ b.0; high = leb-true _ _ b.1; values = rows.values i h }

  pub rows_in : RowsIn s t
  rows_in =
      let w = seen.words in
      let k = rows.counted in
      let g = k.globals in
      let a = k.attrs in
      record {
        ndims = k.dims;
        dims = rows.dims;
        nglobals = omega arith;
        globals = λ i h. attr-in i (omega arith) (w.globals i h);
        nvars = k.vars;
        vars = λ i h.
            let span = k.spans i h in
            record { name = rows.vars i h; rank = rows.ranks i h; span = omega arith; rows = λ j l. attr-in ((var_at t i).first + j) (omega arith) (w.attrs i h j l) };
      }

  enough : Enough t
  enough =
      let k = rows.counted in
      let d = full.dims in
      let a = full.attrs in
      let v = full.vars in
      let p = k.dims in
      let q = k.globals in
      let r = k.attrs in
      let u = k.vars in
      record {
        dims = omega arith;
        globals = omega arith;
        vars = omega arith;
        ranks = λ i h. let x = full.ids i h (omega arith) in let y = rows.ranks i h in omega arith;
        spans = λ i h. let x = k.spans i h in omega arith;
      }

  pub out-is : encode (to_write s t) ≡ header_out s t
  out-is = encode-out s t enough

  pub out-length : length (encode (to_write s t)) ≡ header_length t
  out-length = encoded-length s t full rows

  -- what the output is then
  pub put-header : (out : List ℕ) {new : List ℕ} → new ≡ header_out s t ++ drop (length (header_out s t)) out → new ≡ encode (to_write s t) ++ drop (length (encode (to_write s t))) out
  put-header out f = f ∙ ap (λ (z : List ℕ). z ++ drop (length z) out) (sym out-is)
