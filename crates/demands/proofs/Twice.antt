-- Files that are converted twice, and files that stay in their version.
use Prim.Native.Nat.{ℕ}
use native.Mathlib.Omega.{arith}
use mathlib.Core.Path.{◌≡◌, refl, sym, ap, ◌∙◌}
use mathlib.Core.List.{List, [], ◌∷◌, ◌++◌, map, append-nil}
use lib.ListN.{length, drop}
use lib.Seq.{drop_at}
use lib.Dec.{leb}
use borrow.Author.Tests.{leb-true}
use Rattle.cdf.specs.Magic.{both_versions}
use Rattle.cdf.proofs.Laws.Below.{holds_at}
use Rattle.grammar.specs.Tables.{var_at}
use Rattle.grammar.specs.Meaning.{Variable, Contents, contents, held, said}
use Rattle.rules.specs.Encode.{encode}
use Rattle.rules.proofs.Laws.Views.{EachIs}
use Rattle.order.specs.Writable.{to_write}
use Rattle.header.specs.Header.{read_header}
use Rattle.header.specs.declared.reader.HeaderAnswer.{HeaderAnswer as Header}
use Rattle.convert.specs.Convert.{moved, in_version, new_end, new_tables}
use Rattle.demands.specs.Derived.{AreBytes}
use Rattle.demands.specs.Written.{ReadIsGivenBack}
use Rattle.demands.specs.Converted.{Convertible, ConvertedIsRead, moved_variable, moved_contents, old_header, shift, new_file, new_header, ConvertingTwice, StaysInVersion}
use Rattle.demands.proofs.Written.{read-placed, read-end, read-is-given-back}
use Rattle.demands.proofs.Moved.{contents-moved, begins-said, encode-length}
use Rattle.demands.proofs.Converted.{new-header-length, converted-is-read}

-- a move after a move
vars-twice : (f g k : ℕ → ℕ) → ((b : ℕ) → g (f b) ≡ k b) → (vs : List Variable) → map (moved_variable g) (map (moved_variable f) vs) ≡ map (moved_variable k) vs
vars-twice f g k h [] = refl
vars-twice f g k h (v ∷ vs) =
    λ i. record { name = v.name; ids = v.ids; attributes = v.attributes; code = v.code; vsize = v.vsize; begin = h v.begin i } ∷ vars-twice f g k h vs i

-- the header of a file is the same, whatever the way to say its size
module _ (v w : ℕ) (s rest : List ℕ) (bytes : AreBytes s) (z : (old_header v s rest).number ≡ 0) (c : Convertible v s (old_header v s rest)) where
  reads : ((new_header v s rest).number ≡ 0) × ((new_header v s rest).end ≡ new_end v s (old_header v s rest)) × (length (new_file v s rest) ≡ shift v s rest (length (s ++ rest)))
      × ((said (new_file v s rest) (new_header v s rest).tables).contents ≡ moved_contents v (shift v s rest) (said s (old_header v s rest).tables).contents) × ((new_header v s rest).tables.count ≡ (old_header v s rest).tables.count)
  unfolding ConvertedIsRead
  reads = converted-is-read v s rest bytes z c

  same-header : old_header w (new_file v s rest) [] ≡ new_header v s rest
  same-header = ap (λ (n : ℕ). read_header (new_file v s rest) n both_versions) (ap length (append-nil (new_file v s rest)) ∙ reads.2)

  end_same : new_end w (new_file v s rest) (new_header v s rest) ≡ new_end w s (old_header v s rest)
  end_same = ap (λ (m : Contents). length (encode (in_version w m))) reads.3 ∙ encode-length w (shift v s rest) (said s (old_header v s rest).tables).contents

  head-same : encode (to_write (new_file v s rest) (new_tables w (new_file v s rest) (new_header v s rest))) ≡ encode (to_write s (new_tables w s (old_header w s rest)))
  head-same =
      let x = old_header v s rest in
      let y = new_header v s rest in
      let m = (said s x.tables).contents in
      let g = moved y.end (new_end w (new_file v s rest) y) in
      let p = read-placed (new_file v s rest) (shift v s rest (length (s ++ rest))) both_versions reads.0 in
      let q = read-placed s (length (s ++ rest)) both_versions z in
      let a = contents-moved w g (new_file v s rest) y.tables p.nvars in
      let b = ap (moved_contents w g) reads.3 in
      let two : (n : ℕ) → g (shift v s rest n) ≡ shift w s rest n = λ n. (let e = reads.1 in let k = end_same in omega arith) in
      let d = ap {B = Contents} (λ (vs : List Variable). record { version = w; word = m.word; dimensions = m.dimensions; globals = m.globals; variables = vs }) (vars-twice (shift v s rest) g (shift w s rest) two m.variables) in
      let e = contents-moved w (shift w s rest) s x.tables q.nvars in
      ap encode (a ∙ b ∙ d ∙ sym e)

  tail-same : drop (new_header v s rest).end (new_file v s rest ++ []) ≡ drop (old_header v s rest).end (s ++ rest)
  tail-same =
      let x = old_header v s rest in
      ap (drop (new_header v s rest).end) (append-nil (new_file v s rest))
      ∙ drop_at (encode (to_write s (new_tables v s x))) (drop x.end (s ++ rest)) (new_header v s rest).end (new-header-length v s (length (s ++ rest)) bytes z c ∙ sym reads.1)

  twice : new_file w (new_file v s rest) [] ≡ new_file w s rest
  twice =
      ap (λ (y : Header). encode (to_write (new_file v s rest) (new_tables w (new_file v s rest) y)) ++ drop y.end (new_file v s rest ++ [])) same-header
      ∙ (λ i. head-same i ++ tail-same i)

pub converting-twice : ConvertingTwice
unfolding ConvertingTwice
converting-twice v w s rest bytes z c = twice v w s rest bytes z c

-- begins that stay where they are
vars-stay : (f : ℕ → ℕ) (vs : List Variable) → EachIs (λ (v : Variable). f v.begin ≡ v.begin) vs → map (moved_variable f) vs ≡ vs
vars-stay f [] k = refl
vars-stay f (v ∷ vs) k = λ i. record { name = v.name; ids = v.ids; attributes = v.attributes; code = v.code; vsize = v.vsize; begin = k.0 i } ∷ vars-stay f vs k.1 i

module _ (version : ℕ) (s rest : List ℕ) (bytes : AreBytes s) (z : (old_header version s rest).number ≡ 0) (same : (old_header version s rest).tables.version ≡ version) (c : Convertible version s (old_header version s rest)) where
  version-same : (to_write s (old_header version s rest).tables).version ≡ version
  unfolding contents held
  version-same = same

  end_stays : new_end version s (old_header version s rest) ≡ (old_header version s rest).end
  end_stays =
      let m = to_write s (old_header version s rest).tables in
      let is : in_version version m ≡ m = λ i. record { version = sym version-same i; word = m.word; dimensions = m.dimensions; globals = m.globals; variables = m.variables } in
      ap (λ (x : Contents). length (encode x)) is ∙ read-end s (length (s ++ rest)) both_versions bytes z

  header-stays : encode (to_write s (new_tables version s (old_header version s rest))) ≡ encode (to_write s (old_header version s rest).tables)
  header-stays =
      let x = old_header version s rest in
      let t = x.tables in
      let m = to_write s t in
      let q = read-placed s (length (s ++ rest)) both_versions z in
      let stay : EachIs (λ (v : Variable). shift version s rest v.begin ≡ v.begin) m.variables =
      begins-said (λ (b : ℕ). shift version s rest b ≡ b) s t q.nvars (λ i l.
      let a = leb-true x.end (var_at t i).begin (holds_at (λ j. leb x.end (var_at t j).begin) t.nvars i c.behind l) in
      let e = end_stays in
      omega arith) in
      let vs = vars-stay (shift version s rest) m.variables stay in
      ap encode (contents-moved version (shift version s rest) s t q.nvars ∙ (λ i. record { version = sym version-same i; word = m.word; dimensions = m.dimensions; globals = m.globals; variables = vs i }))

pub stays-in-version : StaysInVersion
unfolding StaysInVersion ReadIsGivenBack
stays-in-version s rest bytes version z same c =
    let g = read-is-given-back s (length (s ++ rest)) both_versions bytes z in
    (g.0, ap (λ (l : List ℕ). l ++ drop (old_header version s rest).end (s ++ rest)) (header-stays version s rest bytes z same c ∙ g.1))
