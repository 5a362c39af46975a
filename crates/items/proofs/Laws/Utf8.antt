-- Laws of well-formed UTF-8: a text byte by byte.
use Prim.Native.Nat.{ℕ, ◌+◌, ◌≤◌, ◌<◌}
use mathlib.Core.Path.{◌≡◌, refl, sym, ap, ◌∙◌}
use mathlib.Core.Bool.{false}
use mathlib.Core.List.{List, [], ◌∷◌}
use native.Mathlib.Numerals.{add-one}
use lib.ListN.{length, get_or, drop, drop_of_length-le}
use lib.Seq.{drop-cons}
use lib.Dec.{eqb}
use Rattle.items.specs.Utf8.{after, scan, utf8}
use Rattle.items.specs.declared.utf8.Due.{Due}
use Rattle.std.proofs.Common.{Some, None}

spoiled : (bs : List ℕ) → scan bs None ≡ false
unfolding scan
spoiled [] = refl
spoiled (b ∷ bs) = refl

-- the text from the i-th byte on
module _ (bs : List ℕ) (i : ℕ) (d : Due) where
  one : i < length bs → scan (drop i bs) (Some d) ≡ scan (drop (i + 1) bs) (after d (get_or bs i 0))
  unfolding scan
  one h = rw (drop-cons bs i 0 h, add-one)

  pub text-more : {d' : Due} → i < length bs → Some d' ≡ after d (get_or bs i 0) → scan (drop i bs) (Some d) ≡ scan (drop (i + 1) bs) (Some d')
  text-more h e = one h ∙ ap (scan (drop (i + 1) bs)) (sym e)

  pub text-bad : i < length bs → None ≡ after d (get_or bs i 0) → scan (drop i bs) (Some d) ≡ false
  text-bad h e = one h ∙ ap (scan (drop (i + 1) bs)) (sym e) ∙ spoiled (drop (i + 1) bs)

  pub text-ends : length bs ≤ i → scan (drop i bs) (Some d) ≡ eqb d.more 0
  unfolding scan
  text-ends h = rw (drop_of_length-le bs h)

pub text-starts : (bs : List ℕ) → utf8 bs ≡ scan (drop 0 bs) (Some (record { more = 0; low = 0x80; high = 0xBF }))
unfolding utf8
text-starts bs = refl
