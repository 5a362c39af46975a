-- Laws of products that are compared by a division.
use Prim.Native.Nat.{ℕ, ◌+◌, ◌*◌, ◌/◌, ◌≤◌, ◌<◌}
use native.Mathlib.Omega.{arith}
use native.Mathlib.Nat.{mul-zero, div-lt_iff_lt-mul, le-div_iff_mul-le, div-le_self, le-mul_of_pos_right, le_trans, mul-le-mul}
use mathlib.Core.Path.{◌≡◌, sym, ap, subst, ◌∙◌}
use mathlib.Core.Logic.{⊎_elim}
use mathlib.Core.Bool.{false}
use lib.Dec.{ltb}
use borrow.Author.Tests.{lt-ltb, le-ltb}
use Rattle.cdf.proofs.Laws.Below.{order}
use Rattle.sizes.specs.Records.{max_chunk}
use Rattle.sizes.specs.Inner.Sizes.{capped}
use Rattle.sizes.proofs.Laws.Records.{capped-in, capped-over, capped_is}

pub times-fits : (a b : ℕ) → 0 < b → a ≤ max_chunk / b → a * b ≤ max_chunk
times-fits a b p h = (le-div_iff_mul-le p).0 h

-- the first factor is one that the limit divided gives
pub times-small : (a b : ℕ) → a ≤ max_chunk / b → a ≤ max_chunk
times-small a b h = le_trans h (div-le_self max_chunk b)

-- factors below 2^28 and 2^32
pub times-short : (a b : ℕ) → a < 268435456 → b < 4294967296 → a * b ≤ max_chunk
times-short a b h l = mul-le-mul {n₁ = a} {m₁ = b} {n₂ = 268435456} {m₂ = 4294967296} (omega arith) (omega arith)

module _ {a : ℕ} (b x : ℕ) (is : a ≡ capped x) where
  pub times_zero : b ≡ 0 → 0 ≡ capped (x * b)
  times_zero e = rw (e, mul-zero)

  pub times-over : 0 < b → max_chunk / b < a → max_chunk + 1 ≡ capped (x * b)
  times-over p h =
      sym (capped-over (x * b)
      (⊎_elim
      (λ (l : x ≤ max_chunk). let e : a ≡ x = is ∙ capped-in x l in (div-lt_iff_lt-mul p).0 (subst (λ (y : ℕ). max_chunk / b < y) e h))
      (λ (l : max_chunk < x). le_trans l (le-mul_of_pos_right x p))
      (order x max_chunk)))

  pub times-in : a ≤ max_chunk → a * b ≤ max_chunk → a * b ≡ capped (x * b)
  times-in h f =
      let e = capped_is x is h in
      ap (λ (y : ℕ). y * b) e ∙ sym (capped-in (x * b) (subst (λ (y : ℕ). y * b ≤ max_chunk) e f))

-- whether steps take more than the room, by a division
pub passes_none : (room n m : ℕ) → m ≡ 0 → false ≡ ltb room (n * m)
passes_none room n m e = rw (e, mul-zero) (sym (le-ltb room 0 (omega arith)))

pub passes-by : (room n m : ℕ) → 0 < m → ltb (room / m) n ≡ ltb room (n * m)
passes-by room n m p =
    ⊎_elim
    (λ (h : n ≤ room / m). le-ltb _ n h ∙ sym (le-ltb room (n * m) ((le-div_iff_mul-le p).0 h)))
    (λ (h : room / m < n). lt-ltb _ n h ∙ sym (lt-ltb room (n * m) ((div-lt_iff_lt-mul p).0 h)))
    (order n (room / m))
