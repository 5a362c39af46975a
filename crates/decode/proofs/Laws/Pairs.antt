-- Laws of numbers of two bytes: read one by one, and as the four pairs of eight bytes that were read in the other order.
use mathlib.Core.Path.{◌≡◌, refl, ap, ◌∙◌}
use mathlib.Core.List.{List}
use Prim.Native.Nat.{ℕ, ◌+◌, ◌*◌, ◌/◌, ◌%◌, ◌<◌}
use native.Mathlib.Nat.{add-zero, zero-add, add_assoc}
use native.Mathlib.Omega.{arith}
use lib.Arith.{digits_div, digits_mod}
use lib.ListN.{get_or}
use Rattle.bigendian.specs.Number.{be}
use Rattle.bigendian.specs.Inner.Turn.{little}
use Rattle.bigendian.proofs.Laws.Number.{be-fits}
use Rattle.decode.specs.Inner.Pairs.{evens, swapped}

pub be-2 : (s : List ℕ) (p : ℕ) → be 2 s p ≡ get_or s p 0 * 256 + get_or s (p + 1) 0
unfolding be
be-2 s p = rw (add-zero, zero-add) refl

-- the digit q in base b that has l below it, which is less than m
digit : (m b r q l x : ℕ) → l < m → q < b → x ≡ (r * b + q) * m + l → x / m % b ≡ q
digit m b r q l x h k e = ap (λ (n : ℕ). n / m % b) e ∙ ap (λ (n : ℕ). n % b) (digits_div (r * b + q) h) ∙ digits_mod r k

-- the lowest digit
lowest : (b r q x : ℕ) → q < b → x ≡ r * b + q → x % b ≡ q
lowest b r q x h e = ap (λ (n : ℕ). n % b) e ∙ digits_mod r h

-- eight bytes, the least significant first
abbrev eight : ℕ → ℕ → ℕ → ℕ → ℕ → ℕ → ℕ → ℕ → ℕ
eight a b c d e f g h = a + b * 256 + c * 0x1_0000 + d * 0x100_0000 + (e + f * 256 + g * 0x1_0000 + h * 0x100_0000) * 0x1_0000_0000

evens-are : (a b c d e f g h x : ℕ) → a < 256 → b < 256 → c < 256 → d < 256 → e < 256 → f < 256 → g < 256 → h < 256 → x ≡ eight a b c d e f g h
    → evens x ≡ a + c * 0x1_0000 + e * 0x1_0000_0000 + g * 0x1_0000_0000_0000
evens-are a b c d e f g h x ha hb hc hd he hf hg hh q =
    let p = lowest 256 (b + c * 256 + d * 0x1_0000 + (e + f * 256 + g * 0x1_0000 + h * 0x100_0000) * 0x100_0000) a x ha (omega arith) in
    let r = digit 0x1_0000 256 (d + (e + f * 256 + g * 0x1_0000 + h * 0x100_0000) * 256) c (a + b * 256) x (omega arith) hc (omega arith) in
    let t = digit 0x1_0000_0000 256 (f + g * 256 + h * 0x1_0000) e (a + b * 256 + c * 0x1_0000 + d * 0x100_0000) x (omega arith) he (omega arith) in
    let u = digit 0x1_0000_0000_0000 256 h g (a + b * 256 + c * 0x1_0000 + d * 0x100_0000 + (e + f * 256) * 0x1_0000_0000) x (omega arith) hg (omega arith) in
    cc

swapped-are : (a b c d e f g h x : ℕ) → a < 256 → b < 256 → c < 256 → d < 256 → e < 256 → f < 256 → g < 256 → h < 256 → x ≡ eight a b c d e f g h
    → swapped x ≡ a * 256 + b + (c * 256 + d) * 0x1_0000 + (e * 256 + f) * 0x1_0000_0000 + (g * 256 + h) * 0x1_0000_0000_0000
swapped-are a b c d e f g h x ha hb hc hd he hf hg hh q =
    let even = evens-are a b c d e f g h x ha hb hc hd he hf hg hh q in
    let odd = evens-are b c d e f g h 0 (x / 256) hb hc hd he hf hg hh (omega arith) (omega arith) in
    omega arith

-- the digits in base 0x1_0000
quarters : (a b c d x : ℕ) → a < 0x1_0000 → b < 0x1_0000 → c < 0x1_0000 → d < 0x1_0000 → x ≡ a + b * 0x1_0000 + c * 0x1_0000_0000 + d * 0x1_0000_0000_0000
    → (x % 0x1_0000 ≡ a) × (x / 0x1_0000 % 0x1_0000 ≡ b) × (x / 0x1_0000_0000 % 0x1_0000 ≡ c) × (x / 0x1_0000_0000_0000 % 0x1_0000 ≡ d)
quarters a b c d x ha hb hc hd e = (
  lowest 0x1_0000 (b + c * 0x1_0000 + d * 0x1_0000_0000) a x ha (omega arith),
  digit 0x1_0000 0x1_0000 (c + d * 0x1_0000) b a x ha hb (omega arith),
  digit 0x1_0000_0000 0x1_0000 d c (a + b * 0x1_0000) x (omega arith) hc (omega arith),
  digit 0x1_0000_0000_0000 0x1_0000 0 d (a + b * 0x1_0000 + c * 0x1_0000_0000) x (omega arith) hd (omega arith),
)

module _ (s : List ℕ) (bytes : (i : ℕ) → get_or s i 0 < 256) where
  -- the four numbers that eight bytes spell, out of those bytes read in the other order and swapped by pairs
  pub pairs : (p x y : ℕ) → x ≡ little s p + little s (p + 4) * 0x1_0000_0000 → y ≡ swapped x
      → (y % 0x1_0000 ≡ be 2 s p) × (y / 0x1_0000 % 0x1_0000 ≡ be 2 s (p + 2)) × (y / 0x1_0000_0000 % 0x1_0000 ≡ be 2 s (p + 4)) × (y / 0x1_0000_0000_0000 % 0x1_0000 ≡ be 2 s (p + 4 + 2))
  pairs p x y e f =
      let whole = swapped-are _ _ _ _ _ _ _ _ x (bytes p) (bytes (p + 1)) (bytes (p + 2)) (bytes (p + 3)) (bytes (p + 4)) (bytes (p + 4 + 1)) (bytes (p + 4 + 2)) (bytes (p + 4 + 3)) e in
      let first = be-2 s p in
      let second : be 2 s (p + 2) ≡ get_or s (p + 2) 0 * 256 + get_or s (p + 3) 0 = be-2 s (p + 2) ∙ ap (λ (i : ℕ). get_or s (p + 2) 0 * 256 + get_or s i 0) (add_assoc p 2 1) in
      let third = be-2 s (p + 4) in
      let fourth : be 2 s (p + 4 + 2) ≡ get_or s (p + 4 + 2) 0 * 256 + get_or s (p + 4 + 3) 0 = be-2 s (p + 4 + 2) ∙ ap (λ (i : ℕ). get_or s (p + 4 + 2) 0 * 256 + get_or s i 0) (add_assoc (p + 4) 2 1) in
      quarters _ _ _ _ y (be-fits s bytes 2 p) (be-fits s bytes 2 (p + 2)) (be-fits s bytes 2 (p + 4)) (be-fits s bytes 2 (p + 4 + 2)) (f ∙ whole ∙ omega arith)
