-- That decoding a stretch fills an output as the reads of records and of whole variables say, and what a decoder may rely on.
use Prim.Native.Nat.{ℕ, ◌+◌, ◌-◌, ◌*◌, ◌≤◌, ◌<◌}
use native.Mathlib.Omega.{arith}
use native.Mathlib.Nat.{mul_comm, one-mul, zero-mul}
use mathlib.Core.Path.{◌≡◌, refl, sym, ap, subst, ◌∙◌}
use mathlib.Core.Bool.{Bool, true, false, ◌||◌}
use mathlib.Core.List.{List, ◌++◌}
use lib.ListN.{length, take, drop}
use lib.Dec.{ltb, leb, eqb}
use borrow.Author.Tests.{le-leb, leb-true, eqb-true}
use borrow.Rule.Slice.PartMut.{mid_len}
use Rattle.bigendian.specs.Number.{be}
use Rattle.bigendian.proofs.Laws.Number.{be-part}
use Rattle.cdf.specs.Step.{Step, got, stop, bind, test, number_of, given_or}
use Rattle.cdf.proofs.Laws.Step.{bind-came, test-came, got_same, bind-test, bind-bind, bind-same, test-same, either}
use Rattle.items.specs.Types.{size_of}
use Rattle.bigendian.specs.Lists.{tab, grid}
use Rattle.decode.specs.Inner.Chunks.{of_record}
use Rattle.bigendian.proofs.Laws.Lists.{grid-ext, row_in}
use Rattle.decode.proofs.Laws.Room.{every-record}
use Rattle.reads.specs.Kept.{whole_bytes, kept_as}
use Rattle.reads.specs.Reads.{record_at, bits, holds, record_from, whole_from}
use Rattle.records.specs.Inner.Stretch.{record_stretch, whole_stretch, record_placed, whole_placed, filled}
use Rattle.found.specs.declared.variable.Spread.{Spread}
use Rattle.records.specs.declared.stretch.Stretch.{Stretch}
use Rattle.reads.proofs.Laws.Reads.{held}
use Rattle.reads.proofs.Laws.Kept.{as-came}

-- ---- the type that was asked for
typed-width : (code : ℕ) (found : Step Spread) {v : Spread} {n : ℕ} → got v n ≡ kept_as code found → v.width ≡ size_of code
typed-width code found e = let k = as-came found code e in k.0.size ∙ ap (λ (c : ℕ). size_of c) k.1

-- ---- the values of a part of the window, in the window's own places
module _ {A : Type 0} (F : ℕ → A) (w : ℕ) (s : List ℕ) where
  table-of-part : (at n m stride : ℕ) (pos : ℕ → ℕ → ℕ) → ((k : ℕ) → k < n → k * stride + w * m ≤ length s - at) → ((k j : ℕ) → k < n → at + (k * stride + w * j) ≡ pos k j)
      → grid (of_record F w (take (length s - at) (drop at s)) stride) m n ≡ grid (λ k j. F (be w s (pos k j))) m n
  table-of-part at n m stride pos fits is =
      grid-ext _ _ m n (λ k j l h.
      let row : j * w + w ≤ m * w = row_in j m w (m * w) h (omega arith) in
      let a = mul_comm j w in
      let b = mul_comm m w in
      let f = fits k l in
      ap F (be-part w s at (length s - at) (k * stride + w * j) (omega arith) ∙ ap (be w s) (is k j l)))

-- ---- what a decoder may rely on
pub record Fits (w have room : ℕ) (x : Stretch) : Type 0 where
  pub inside : x.at ≤ have
  pub roomy : x.count * x.chunk ≤ room
  pub each : (k : ℕ) → k < x.count → k * x.stride + w * x.chunk ≤ have - x.at

-- in the words of a decoder of w bytes an element, which is lent the part `&s[at..]`
pub decoder-asks : {w room : ℕ} (s : List ℕ) {x : Stretch} → Fits w (length s) room x
    → (x.count * x.chunk ≤ room) × ((k : ℕ) → k < x.count → k * x.stride + w * x.chunk ≤ length (take (length s - x.at) (drop x.at s)))
decoder-asks s {x} f =
    (f.roomy, λ k l. let e = mid_len x.at (length s) s (omega arith) in let q = f.each k l in omega arith)

module _ (v : Spread) (w : ℕ) (width : v.width ≡ w) (have start room : ℕ) where
  bytes : v.chunk * v.width ≡ w * v.chunk
  bytes = rw width (mul_comm v.chunk w)

  record-fits : (r : ℕ) {x : Stretch} {n : ℕ} → got x n ≡ record_stretch v have start r room → Fits w have room x
  unfolding record_stretch
  record-fits r e =
      let a = test-came 18 0 e in
      let b = test-came 20 0 a.1 in
      let c = test-came 22 0 b.1 in
      let h = held have start (record_at v r) (v.chunk * v.width) (sym b.0) in
      let q = bytes in
      let l : v.chunk ≤ room = leb-true _ _ c.0 in
      subst (λ (x : Stretch). Fits w have room x) (sym (got_same c.1))
      (record { inside = omega arith; roomy = rw one-mul l; each = λ k b. let z : k ≡ 0 = omega arith in rw (z, zero-mul) (omega arith) })

  none-fits : Fits w have room (record { at = 0; count = 0; chunk = v.chunk; stride = v.step })
  none-fits = record { inside = omega arith; roomy = rw zero-mul (omega arith); each = λ k b. absurd (omega arith) }

  whole-fits : {x : Stretch} {n : ℕ} → got x n ≡ whole_stretch v have start room → Fits w have room x
  unfolding whole_stretch
  whole-fits {x} e =
      either _ _ _ e
      (λ f. subst (λ (x : Stretch). Fits w have room x) (sym (got_same f)) none-fits)
      (λ f.
      let b = test-came 20 0 f in
      let c = test-came 22 0 b.1 in
      let h = held have start v.begin (whole_bytes v) (sym b.0) in
      let q = bytes in
      let last : (v.records - 1) * v.step + w * v.chunk ≤ have - (v.begin - start) = omega arith in
      subst (λ (x : Stretch). Fits w have room x) (sym (got_same c.1))
      (record { inside = omega arith; roomy = leb-true _ _ c.0; each = every-record v.records v.step (w * v.chunk) _ last }))

module _ (code : ℕ) (found : Step Spread) (have start room : ℕ) {w : ℕ} (sized : size_of code ≡ w) where
  pub record-of-fits : (r : ℕ) {x : Stretch} {n : ℕ} → got x n ≡ record_placed code found have start r room → Fits w have room x
  unfolding record_placed
  record-of-fits r {x} e = bind-came (kept_as code found) _ e _ (λ v m f g. record-fits v w (typed-width code found f ∙ sized) have start room r g)

  pub whole-of-fits : {x : Stretch} {n : ℕ} → got x n ≡ whole_placed code found have start room → Fits w have room x
  unfolding whole_placed
  whole-of-fits {x} e = bind-came (kept_as code found) _ e _ (λ v m f g. whole-fits v w (typed-width code found f ∙ sized) have start room g)

-- ---- the output
module _ {A : Type 0} (F : ℕ → A) (s : List ℕ) (start : ℕ) (out : List A) (v : Spread) (w : ℕ) (width : v.width ≡ w) where
  record-list : (r : ℕ) → holds (length s) start (record_at v r) (v.chunk * v.width) ≡ true
      → grid (of_record F w (take (length s - (record_at v r - start)) (drop (record_at v r - start) s)) v.step) v.chunk 1 ++ drop (1 * v.chunk) out ≡ tab (λ e. F (bits v s start r e)) v.chunk ++ drop v.chunk out
  unfolding grid
  record-list r e =
      let h = held (length s) start (record_at v r) (v.chunk * v.width) (sym e) in
      let q = bytes v w width (length s) start 0 in
      let m =
      table-of-part F w s (record_at v r - start) 1 v.chunk v.step (λ _ j. record_at v r + j * w - start)
      (λ k b. let z : k ≡ 0 = omega arith in rw (z, zero-mul) (omega arith))
      (λ k j b. let z : k ≡ 0 = omega arith in let p = mul_comm j w in rw (z, zero-mul) (omega arith)) in
      rw (one-mul v.chunk, width) (ap (λ (l : List A). l ++ drop v.chunk out) m)

  whole-list : holds (length s) start v.begin (whole_bytes v) ≡ true
      → grid (of_record F w (take (length s - (v.begin - start)) (drop (v.begin - start) s)) v.step) v.chunk v.records ≡ grid (λ k e. F (bits v s start k e)) v.chunk v.records
  whole-list e =
      let h = held (length s) start v.begin (whole_bytes v) (sym e) in
      let q = bytes v w width (length s) start 0 in
      let last : (v.records - 1) * v.step + w * v.chunk ≤ length s - (v.begin - start) = omega arith in
      rw width (table-of-part F w s (v.begin - start) v.records v.chunk v.step (λ k j. record_at v k + j * w - start) (every-record v.records v.step (w * v.chunk) _ last) (λ k j b. let p = mul_comm j w in omega arith))

  -- the output that a stretch is decoded into
  abbrev decoded : Stretch → ℕ → Step (List A)
  decoded x _ =
      got (grid (of_record F w (take (length s - x.at) (drop x.at s)) x.stride) x.chunk x.count ++ drop (x.count * x.chunk) out) 0

  -- what a whole-variable read leaves where there is room
  abbrev whole : Step (List A)
  whole =
      test (leb (v.records * v.chunk) (length out))
      (got (grid (λ k e. F (bits v s start k e)) v.chunk v.records ++ drop (v.records * v.chunk) out) 0)
      (stop 22 0)

  whole-nothing : v.records ≡ 0 → decoded (record { at = 0; count = 0; chunk = v.chunk; stride = v.step }) 0 ≡ whole
  unfolding grid test
  whole-nothing e = rw (e, zero-mul v.chunk, le-leb 0 (length out) (omega arith))

  whole-step : (none : Bool) → eqb v.records 0 ≡ none
      → bind (test none (got (record { at = 0; count = 0; chunk = v.chunk; stride = v.step }) 0) (test (holds (length s) start v.begin (whole_bytes v)) (test (leb (v.records * v.chunk) (length out)) (got (record { at = v.begin - start; count = v.records; chunk = v.chunk; stride = v.step }) 0) (stop 22 0)) (stop 20 0))) decoded
      ≡ test (none || holds (length s) start v.begin (whole_bytes v)) whole (stop 20 0)
  unfolding bind test
  whole-step true e = whole-nothing (eqb-true _ _ e)
  whole-step false e =
      bind-test (holds (length s) start v.begin (whole_bytes v)) _ _ decoded
      ∙ test-same (holds (length s) start v.begin (whole_bytes v)) (stop 20 0) (λ h.
      bind-test (leb (v.records * v.chunk) (length out)) _ _ decoded
      ∙ test-same (leb (v.records * v.chunk) (length out)) (stop 22 0) (λ _. ap (λ (l : List A). got (l ++ drop (v.records * v.chunk) out) 0) (whole-list h)))

-- ---- the reads
module _ {A : Type 0} (F : ℕ → A) (code : ℕ) (found : Step Spread) (s : List ℕ) (start : ℕ) (out : List A) {w : ℕ} (sized : size_of code ≡ w) where
  record_is : (r : ℕ) → filled F w s out (record_placed code found (length s) start r (length out)) ≡ record_from F code found s start r out
  unfolding filled record_placed record_from record_stretch bind
  record_is r =
      bind-bind (kept_as code found) _ _
      ∙ bind-same (kept_as code found) _ _ (λ v n e.
      bind-test (ltb r v.records) _ _ _
      ∙ test-same (ltb r v.records) (stop 18 0) (λ _.
      bind-test (holds (length s) start (record_at v r) (v.chunk * v.width)) _ _ _
      ∙ test-same _ (stop 20 0) (λ h.
      bind-test (leb v.chunk (length out)) _ _ _ ∙ test-same _ (stop 22 0) (λ _. ap (λ (l : List A). got l 0) (record-list F s start out v _ (typed-width code found e ∙ sized) r h)))))

  whole_is : filled F w s out (whole_placed code found (length s) start (length out)) ≡ whole_from F code found s start out
  unfolding filled whole_placed whole_from whole_stretch
  whole_is =
      bind-bind (kept_as code found) _ _
      ∙ bind-same (kept_as code found) _ _ (λ v n e. whole-step F s start out v _ (typed-width code found e ∙ sized) (eqb v.records 0) refl)

  -- the number and the output, by the stretch that was placed or by the refusal
  module _ (m : Step Stretch) where
    filled-stop : {k : ℕ} → stop k 0 ≡ m → (k ≡ number_of (filled F w s out m)) × (out ≡ given_or out (filled F w s out m))
    unfolding filled bind
    filled-stop e = (ap (λ n. number_of (filled F w s out n)) e, ap (λ n. given_or out (filled F w s out n)) e)

    filled-got : {x : Stretch} {new : List A} → got x 0 ≡ m
        → new ≡ grid (of_record F w (take (length s - x.at) (drop x.at s)) x.stride) x.chunk x.count ++ drop (x.count * x.chunk) out
        → (0 ≡ number_of (filled F w s out m)) × (new ≡ given_or out (filled F w s out m))
    unfolding filled bind
    filled-got e q = (ap (λ n. number_of (filled F w s out n)) e, q ∙ ap (λ n. given_or out (filled F w s out n)) e)

  pub record-stop : {k : ℕ} (r : ℕ) → stop k 0 ≡ record_placed code found (length s) start r (length out) → (k ≡ number_of (record_from F code found s start r out)) × (out ≡ given_or out (record_from F code found s start r out))
  record-stop {k} r e = subst (λ (y : Step (List A)). (k ≡ number_of y) × (out ≡ given_or out y)) (record_is r) (filled-stop _ e)

  pub record-got : {x : Stretch} {new : List A} (r : ℕ) → got x 0 ≡ record_placed code found (length s) start r (length out)
      → new ≡ grid (of_record F w (take (length s - x.at) (drop x.at s)) x.stride) x.chunk x.count ++ drop (x.count * x.chunk) out
      → (0 ≡ number_of (record_from F code found s start r out)) × (new ≡ given_or out (record_from F code found s start r out))
  record-got {new = new} r e q = subst (λ (y : Step (List A)). (0 ≡ number_of y) × (new ≡ given_or out y)) (record_is r) (filled-got _ e q)

  pub whole-stop : {k : ℕ} → stop k 0 ≡ whole_placed code found (length s) start (length out) → (k ≡ number_of (whole_from F code found s start out)) × (out ≡ given_or out (whole_from F code found s start out))
  whole-stop {k} e = subst (λ (y : Step (List A)). (k ≡ number_of y) × (out ≡ given_or out y)) whole_is (filled-stop _ e)

  pub whole-got : {x : Stretch} {new : List A} → got x 0 ≡ whole_placed code found (length s) start (length out)
      → new ≡ grid (of_record F w (take (length s - x.at) (drop x.at s)) x.stride) x.chunk x.count ++ drop (x.count * x.chunk) out
      → (0 ≡ number_of (whole_from F code found s start out)) × (new ≡ given_or out (whole_from F code found s start out))
  whole-got {new = new} e q = subst (λ (y : Step (List A)). (0 ≡ number_of y) × (new ≡ given_or out y)) whole_is (filled-got _ e q)
