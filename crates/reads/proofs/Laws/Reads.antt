-- Laws of windows and of where elements stand.
use Prim.Native.Nat.{ℕ, zero, suc, ◌+◌, ◌-◌, ◌*◌, ◌≤◌, ◌<◌}
use native.Mathlib.Omega.{arith}
use native.Mathlib.Nat.{le_refl, zero-mul}
use mathlib.Core.Path.{◌≡◌, refl, sym, subst}
use mathlib.Core.Bool.{Bool, true, false, ◌||◌}
use mathlib.Core.List.{List}
use lib.ListN.{get_or}
use lib.Dec.{leb, eqb}
use borrow.Author.Tests.{le-leb, leb-true, ne_eqb, eqb-false}
use Rattle.bigendian.specs.Number.{be}
use Rattle.cdf.proofs.Laws.Below.{both}
use Rattle.bigendian.proofs.Laws.Lists.{row_in}
use Rattle.decode.proofs.Laws.Room.{every-record}
use Rattle.reads.specs.Reads.{record_at, holds}
use Rattle.reads.specs.Kept.{whole_bytes}
use Rattle.found.specs.declared.variable.Spread.{Spread}

module _ (have start at n : ℕ) where
  -- bytes that are held start in the window and end in it
  pub held : true ≡ holds have start at n → (start ≤ at) × (at + n ≤ start + have)
  unfolding holds
  held e = let q = both (leb start at) (leb (at + n) (start + have)) (sym e) in (leb-true _ _ q.0, leb-true _ _ q.1)

  -- and bytes that do are held
  pub held_by : start ≤ at → at + n ≤ start + have → holds have start at n ≡ true
  unfolding holds
  held_by h l = rw (le-leb start at h) (le-leb (at + n) (start + have) l)

-- an element of a chunk, and so its place, lies before the chunk's end
module _ (v : Spread) (e : ℕ) (inside : e < v.chunk) where
  pub element-in : e * v.width + v.width ≤ v.chunk * v.width
  element-in = row_in e v.chunk v.width (v.chunk * v.width) inside (omega arith)

-- a window passes the test of a whole-variable read exactly where it holds the value bytes of each record
module _ (v : Spread) (have start : ℕ) where
  pub each-held : eqb v.records 0 || holds have start v.begin (whole_bytes v) ≡ true → (k : ℕ) → k < v.records → holds have start (record_at v k) (v.chunk * v.width) ≡ true
  each-held e k h =
      let some : eqb v.records 0 ≡ false = ne_eqb v.records 0 (λ z. omega arith) in
      let w : holds have start v.begin (whole_bytes v) ≡ true = subst (λ (b : Bool). b || holds have start v.begin (whole_bytes v) ≡ true) some e in
      let a = held have start v.begin (whole_bytes v) (sym w) in
      let m = every-record v.records v.step (v.chunk * v.width) _ (le_refl (whole_bytes v)) k h in
      held_by have start (record_at v k) (v.chunk * v.width) (omega arith) (omega arith)

  pub whole-held : ((k : ℕ) → k < v.records → holds have start (record_at v k) (v.chunk * v.width) ≡ true) → eqb v.records 0 || holds have start v.begin (whole_bytes v) ≡ true
  whole-held h = by (eqb v.records 0) refl
    where
      by : (b : Bool) → eqb v.records 0 ≡ b → b || holds have start v.begin (whole_bytes v) ≡ true
      by true e = refl
      by false e =
          let n = eqb-false v.records 0 e in
          let some : 0 < v.records = omega arith in
          let first = held have start (record_at v 0) (v.chunk * v.width) (sym (h 0 some)) in
          let last = held have start (record_at v (v.records - 1)) (v.chunk * v.width) (sym (h (v.records - 1) (omega arith))) in
          let z = zero-mul v.step in
          held_by have start v.begin (whole_bytes v) (omega arith) (omega arith)

-- two windows that have the same k bytes from a position of the file have the same number there
pub same_number : (k : ℕ) (s s' : List ℕ) (start start' at : ℕ) → start ≤ at → start' ≤ at → ((p : ℕ) → at ≤ p → p < at + k → get_or s (p - start) 0 ≡ get_or s' (p - start') 0)
    → be k s (at - start) ≡ be k s' (at - start')
unfolding be
same_number zero s s' start start' at h l e = refl
same_number (suc k) s s' start start' at h l e =
    let a = same_number k s s' start start' at h l (λ p b c. e p b (omega arith)) in
    let b : at - start + k ≡ at + k - start = omega arith in
    let b' : at - start' + k ≡ at + k - start' = omega arith in
    let c = e (at + k) (omega arith) (omega arith) in
    rw (b, b', a, c)
