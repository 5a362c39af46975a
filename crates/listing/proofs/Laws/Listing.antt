-- Laws of what the listing program prints.
use Prim.Native.Nat.{ℕ, ◌+◌, ◌≤◌, ◌<◌}
use native.Mathlib.Omega.{arith}
use mathlib.Core.Path.{◌≡◌, refl, sym, ap, subst, ◌∙◌}
use mathlib.Core.Bool.{Bool, true, false, cond}
use mathlib.Core.Logic.{⊎_elim}
use mathlib.Core.List.{List, [], ◌∷◌, ◌++◌, append_assoc, append-nil}
use lib.ListN.{length, take, drop}
use lib.Seq.{take_all, length-take-le}
use Rattle.std.proofs.lemmas.List.{take-append-drop}
use lib.Dec.{eqb}
use borrow.Author.Tests.{ne_eqb}
use Rattle.header.specs.Header.{refusal, read_header}
use Rattle.header.specs.declared.reader.HeaderAnswer.{HeaderAnswer as Header}
use Rattle.grammar.specs.Tables.{blank, laid}
use Rattle.cdf.specs.Magic.{both_versions}
use Rattle.cdf.proofs.Laws.Below.{order}
use Rattle.hexlines.specs.Line.{LineKind, long, hex, file, kind_of}
use Rattle.hexlines.specs.Lines.{newline, lines}
use Rattle.hexlines.specs.Text.{field_text}
use Rattle.hexlines.specs.Inner.Cut.{before, kept}
use Rattle.hexlines.proofs.Laws.Cut.{take-grow}
use Rattle.hexlines.proofs.Laws.Line.{kind-kept}
use Rattle.hexlines.proofs.Laws.Lines.{lines-open, lines-close}
use Rattle.listing.specs.Listing.{header_text, file_text, text, answers, heading, left, listing, Turns, Runs, ends, turns, EveryInput}

-- a header that is accepted, and a refusal
pub file-text : (s : List ℕ) {h : Header} → h ≡ read_header s (length s) both_versions → field_text h.number h.place h.tables.count h.end ≡ file_text s
unfolding file_text header_text
file-text s e = ap header_text e

pub refusal-text : (s : List ℕ) (k p : ℕ) {n : ℕ} → n ≡ k → refusal k p ≡ read_header s (length s) both_versions → field_text n p 0 0 ≡ file_text s
unfolding file_text header_text refusal blank laid
refusal-text s k p f e = ap (λ (i : ℕ). field_text i p 0 0) f ∙ ap header_text e

module _ {a : LineKind} where
  pub long-text : long ≡ a → (108 ∷ 111 ∷ 110 ∷ 103 ∷ 10 ∷ []) ≡ text a
  unfolding text
  long-text e = ap text e

  pub hex-text : hex ≡ a → (104 ∷ 101 ∷ 120 ∷ 10 ∷ []) ≡ text a
  unfolding text
  hex-text e = ap text e

  pub text-of-file : (s : List ℕ) → file s ≡ a → file_text s ≡ text a
  unfolding text
  text-of-file s e = ap text e

-- ---- a line of which only the first characters are held prints as the whole line
same_text : (l : List ℕ) → text (kind_of (take kept l)) ≡ text (kind_of l)
same_text l = ap text (kind-kept l)

pub left-kept : (rest begun : List ℕ) → left (take kept begun) rest ≡ left begun rest
unfolding left lines answers
left-kept [] begun =
    ⊎_elim
    (λ (h : length begun ≤ kept). ap (λ (b : List ℕ). left b []) (take_all kept begun h))
    (λ (h : kept < length begun).
    let l = length-take-le kept begun (omega arith) in
    let some : eqb (length begun) 0 ≡ false = ne_eqb (length begun) 0 (λ e. omega arith) in
    let some' : eqb (length (take kept begun)) 0 ≡ false = ne_eqb (length (take kept begun)) 0 (λ e. omega arith) in
    rw (some, some') (ap (λ (x : List ℕ). x ++ []) (same_text begun)))
    (order (length begun) kept)
left-kept (c ∷ cs) begun = by (eqb c newline) (left-kept cs (take kept begun ++ (c ∷ []))) (left-kept cs (begun ++ (c ∷ [])))
  where
    by : (b : Bool)
        → left (take kept (take kept begun ++ (c ∷ []))) cs ≡ left (take kept begun ++ (c ∷ [])) cs
        → left (take kept (begun ++ (c ∷ []))) cs ≡ left (begun ++ (c ∷ [])) cs
        → answers (cond b (take kept begun ∷ lines [] cs) (lines (take kept begun ++ (c ∷ [])) cs)) ≡ answers (cond b (begun ∷ lines [] cs) (lines (begun ++ (c ∷ [])) cs))
    by true f g = ap (λ (x : List ℕ). x ++ answers (lines [] cs)) (same_text begun)
    by false f g = sym f ∙ ap (λ (x : List ℕ). left x cs) (take-grow kept begun (c ∷ [])) ∙ g

-- ---- what is left at the end of the text
pub left_none : (line : List ℕ) → length line ≡ 0 → [] ≡ left line []
unfolding left lines answers
left_none [] e = refl
left_none (c ∷ cs) e = absurd (omega arith)

pub left_last : {shown : List ℕ} (b : List ℕ) → (length b ≡ 0 → ⊥) → shown ≡ text (kind_of b) → shown ≡ left b []
unfolding left lines answers
left_last b n e = rw (ne_eqb (length b) 0 n) (e ∙ sym (append-nil (text (kind_of b))))

-- ---- what one cut of a block adds to the line that is begun, of which the first characters are held
module _ (d begun after : List ℕ) (line : after ≡ take kept (begun ++ take (before d) d)) where
  cut-open : before d ≡ length d → Turns begun d [] after
  unfolding left
  cut-open e =
      let all : take (before d) d ≡ d = take_all (before d) d (omega (arith, e)) in
      record {
        same = λ rest.
            ap answers (lines-open d begun rest (omega (arith, e)))
            ∙ sym (left-kept rest (begun ++ d))
            ∙ ap (λ (x : List ℕ). left x rest) (sym (line ∙ ap (λ (x : List ℕ). take kept (begun ++ x)) all));
      }

  cut-closed : before d < length d → Turns begun (take (before d + 1) d) (text (kind_of after)) []
  unfolding left answers
  cut-closed l =
      record {
        same = λ rest.
            ap answers (lines-close d begun rest l)
            ∙ ap (λ (x : List ℕ). x ++ answers (lines [] rest)) (sym (same_text (begun ++ take (before d) d)) ∙ ap (λ (x : List ℕ). text (kind_of x)) (sym line));
      }

-- ---- turns, one after the other
pub turns-none : (begun : List ℕ) → Turns begun [] [] begun
turns-none begun = record { same = λ rest. refl }

pub turns_then : {a b c x y p q : List ℕ} → Turns a x p b → Turns b y q c → Turns a (x ++ y) (p ++ q) c
turns_then {a} {b} {c} {x} {y} {p} {q} f g =
    record { same = λ rest. ap (left a) (append_assoc x y rest) ∙ f.same (y ++ rest) ∙ ap (λ (z : List ℕ). p ++ z) (g.same rest) ∙ sym (append_assoc p q (left c rest)) }

-- the same turn, with an equal output
turns_same : {a b x p q : List ℕ} → p ≡ q → Turns a x p b → Turns a x q b
turns_same {a} {b} {x} e t = subst (λ (z : List ℕ). Turns a x z b) e t

-- a block of which a part is taken in turns, which print p, and `rest` is left, so that `line` is open
pub record Taken (block rest begun p line : List ℕ) : Type 0 where
  pub part : List ℕ
  pub whole : block ≡ part ++ rest
  pub so : Turns begun part p line

pub taken-none : (block begun : List ℕ) → Taken block block begun [] begun
taken-none block begun = record { part = []; whole = refl; so = turns-none begun }

-- all of a block
pub taken-all : {block begun p line : List ℕ} → Taken block [] begun p line → Turns begun block p line
taken-all {block} {begun} {p} {line} t = subst (λ (x : List ℕ). Turns begun x p line) (sym (append-nil t.part) ∙ sym t.whole) t.so

pub taken-more : {block rest rest' begun p q line line' x : List ℕ} → Taken block rest begun p line → rest ≡ x ++ rest' → Turns line x q line' → Taken block rest' begun (p ++ q) line'
taken-more {rest' = rest'} {x = x} t e f =
    record { part = t.part ++ x; whole = t.whole ∙ ap (λ (r : List ℕ). t.part ++ r) e ∙ sym (append_assoc t.part x rest'); so = turns_then t.so f }

module _ {block rest begun p line after : List ℕ} (t : Taken block rest begun p line) (held : after ≡ take kept (line ++ take (before rest) rest)) where
  -- a line more, which the block closes, and then its last part, which closes none
  pub taken-line : {next q shown : List ℕ} → shown ≡ after → before rest < length rest → next ≡ drop (before rest + 1) rest → q ≡ p ++ text (kind_of shown) → Taken block next begun q []
  taken-line {next} s l n e =
      rw (e, s) (taken-more t (sym (ap (λ (x : List ℕ). take (before rest + 1) rest ++ x) n ∙ take-append-drop (before rest + 1) rest)) (cut-closed rest line after held l))

  pub taken-part : before rest ≡ length rest → Taken block [] begun p after
  taken-part e =
      let m = taken-more t (sym (append-nil rest)) (cut-open rest line after held e) in
      record { part = m.part; whole = m.whole; so = turns_same (append-nil p) m.so }

runs-left : {begun text more : List ℕ} → Runs begun text more → more ≡ left begun text
runs-left (ends begun) = refl
runs-left (turns begun part printed begun' rest more t r) = ap (λ (x : List ℕ). printed ++ x) (runs-left r) ∙ sym (t.same rest)

pub every-input : EveryInput
unfolding EveryInput listing
every-input input more r = ap (λ (x : List ℕ). heading ++ x) (runs-left r)
