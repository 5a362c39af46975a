-- By which numbers the steps of a header refuse.
use Prim.Native.Nat.{ℕ, zero, suc}
use mathlib.Core.Bool.{Bool, true, false, cond}
use mathlib.Core.List.{List, [], ◌∷◌, ◌++◌}
use lib.ListN.{length}
use lib.Dec.{ltb}
use Rattle.cdf.specs.Step.{Step, got, stop, bind, test, into, items, unfinished}
use Rattle.cdf.specs.Form.{Form}
use Rattle.cdf.specs.Word.{word, non_negative, open_count, nelems, signed}
use Rattle.cdf.specs.Magic.{magic, version_byte}
use Rattle.cdf.specs.declared.version.Admitted.{Admitted}
use Rattle.cdf.specs.Padding.{zero_padding}
use Rattle.cdf.specs.ListStart.{list_start}
use Rattle.items.specs.Name.{name}
use Rattle.items.specs.Types.{data_type}
use Rattle.items.specs.Values.{values}
use Rattle.grammar.specs.Dims.{dim, dim_list}
use Rattle.grammar.specs.Attrs.{attr, attr_list}
use Rattle.grammar.specs.Vars.{var, var_list}
use Rattle.grammar.specs.Grammar.{header}
use Rattle.grammar.specs.Inner.Parts.{lists}
use Rattle.grammar.specs.declared.tables.Tables.{Tables}
use Rattle.sizes.specs.Count.{record_count}
use Rattle.header.specs.Header.{judged}

-- a step whose refusals have numbers of which P holds
pub data Refuses (P : ℕ → Type 0) {A : Type 0} : Step A → Type 0 where
  gives : (a : A) (n : ℕ) → Refuses P (got a n)
  stops : (k p : ℕ) → P k → Refuses P (stop k p)

module _ {P : ℕ → Type 0} where
  pub bind-refuses : {A B : Type 0} (m : Step A) (f : A → ℕ → Step B) → Refuses P m → ((a : A) (n : ℕ) → Refuses P (f a n)) → Refuses P (bind m f)
  unfolding bind
  bind-refuses (got a n) f (gives _ _) h = h a n
  bind-refuses (stop k p) f (stops _ _ e) h = stops k p e

  pub test-refuses : {A : Type 0} (t : Bool) (x y : Step A) → Refuses P x → Refuses P y → Refuses P (test t x y)
  unfolding test
  test-refuses true x y h l = h
  test-refuses false x y h l = l

  items-refuse : {A : Type 0} (f : List A → ℕ → Step A) → ((xs : List A) (at : ℕ) → Refuses P (f xs at)) → (n : ℕ) (xs : List A) (at : ℕ) → Refuses P (items f n xs at)
  unfolding items
  items-refuse f h zero xs at = gives xs at
  items-refuse f h (suc n) xs at = bind-refuses _ _ (h xs at) (λ x q. items-refuse f h n (xs ++ (x ∷ [])) q)

  pub into-refuses : {A B : Type 0} (g : A → B) (m : Step A) → Refuses P m → Refuses P (into g m)
  unfolding into
  into-refuses g (got a n) (gives _ _) = gives (g a) n
  into-refuses g (stop k p) (stops _ _ e) = stops k p e

  -- 1 and 2
  module _ (p1 : P 1) (p2 : P 2) where
    pub short : {A : Type 0} (s : List ℕ) (size : ℕ) → Refuses P (unfinished {A = A} s size)
    unfolding unfinished
    short s size = stops _ _ (two (ltb (length s) size))
      where
        two : (b : Bool) → P (cond b 1 2)
        two true = p1
        two false = p2

  -- after the version byte: 1, 2, and 5 to 10
  module _ (p1 : P 1) (p2 : P 2) (p5 : P 5) (p6 : P 6) (p7 : P 7) (p8 : P 8) (p9 : P 9) (p10 : P 10) (s : List ℕ) (size : ℕ) where
    word-refuses : (k at : ℕ) → Refuses P (word k s size at)
    unfolding word
    word-refuses k at = test-refuses _ _ _ (gives _ _) (short p1 p2 s size)

    non_negative-refuses : (k at : ℕ) → Refuses P (non_negative k s size at)
    unfolding non_negative
    non_negative-refuses k at = bind-refuses _ _ (word-refuses k at) (λ v n. test-refuses _ _ _ (gives _ _) (stops 5 _ p5))

    pub open_count-refuses : (k at : ℕ) → Refuses P (open_count k s size at)
    unfolding open_count
    open_count-refuses k at = bind-refuses _ _ (word-refuses k at) (λ v n. test-refuses _ _ _ (gives _ _) (stops 5 _ p5))

    nelems-refuses : (c k at : ℕ) → Refuses P (nelems c k s size at)
    unfolding nelems
    nelems-refuses c k at = bind-refuses _ _ (non_negative-refuses k at) (λ v n. test-refuses _ _ _ (gives _ _) (stops 10 _ p10))

    signed-refuses : (k at : ℕ) → Refuses P (signed k s size at)
    unfolding signed
    signed-refuses k at = bind-refuses _ _ (word-refuses k at) (λ v n. gives _ _)

    padding-refuses : (n at : ℕ) → Refuses P (zero_padding n s size at)
    unfolding zero_padding
    padding-refuses n at = test-refuses _ _ _ (test-refuses _ _ _ (gives _ _) (stops 7 _ p7)) (short p1 p2 s size)

    start-refuses : (a k tag room at : ℕ) → Refuses P (list_start a k tag room s size at)
    unfolding list_start
    start-refuses a k tag room at =
        test-refuses _ _ _ (test-refuses _ _ _ (gives _ _) (short p1 p2 s size)) (test-refuses _ _ _ (nelems-refuses room k _) (stops 9 _ p9))

    name-refuses : (k at : ℕ) → Refuses P (name k s size at)
    unfolding name
    name-refuses k at =
        bind-refuses _ _ (nelems-refuses _ k at) (λ n p.
        test-refuses _ _ _ (test-refuses _ _ _ (bind-refuses _ _ (padding-refuses n _) (λ _ e. gives _ _)) (stops 6 _ p6)) (short p1 p2 s size))

    type-refuses : (c at : ℕ) → Refuses P (data_type c s size at)
    unfolding data_type
    type-refuses c at = bind-refuses _ _ (non_negative-refuses 4 at) (λ v n. test-refuses _ _ _ (gives _ _) (stops 8 _ p8))

    values-refuse : (c w at : ℕ) → Refuses P (values c w s size at)
    unfolding values
    values-refuse c w at = test-refuses _ _ _ (padding-refuses _ _) (short p1 p2 s size)

    module _ (f : Form) where
      dim-refuses : (at : ℕ) → Refuses P (dim f s size at)
      unfolding dim
      dim-refuses at = bind-refuses _ _ (name-refuses _ at) (λ n p. bind-refuses _ _ (non_negative-refuses _ p) (λ l e. gives _ _))

      attr-refuses : (at : ℕ) → Refuses P (attr f s size at)
      unfolding attr
      attr-refuses at =
          bind-refuses _ _ (name-refuses _ at) (λ n p.
          bind-refuses _ _ (type-refuses _ p) (λ y q.
          bind-refuses _ _ (non_negative-refuses _ q) (λ c r.
          bind-refuses _ _ (values-refuse c _ r) (λ _ e. gives _ _))))

      attr_list-refuses : (used at : ℕ) → Refuses P (attr_list f s size used at)
      unfolding attr_list
      attr_list-refuses used at = bind-refuses _ _ (start-refuses _ _ _ _ at) (λ n p. items-refuse _ (λ _ q. attr-refuses q) n [] p)

      var-refuses : (used at : ℕ) → Refuses P (var f s size used at)
      unfolding var
      var-refuses used at =
          bind-refuses _ _ (name-refuses _ at) (λ n p.
          bind-refuses _ _ (nelems-refuses _ _ p) (λ k q.
          bind-refuses _ _ (items-refuse _ (λ _ r. non_negative-refuses _ r) k [] q) (λ is r.
          bind-refuses _ _ (attr_list-refuses used r) (λ xs u.
          bind-refuses _ _ (type-refuses _ u) (λ y v.
          bind-refuses _ _ (open_count-refuses _ v) (λ z w.
          bind-refuses _ _ (signed-refuses _ w) (λ b e. gives _ _)))))))

    pub lists-refuse : (v w at : ℕ) → Refuses P (lists v w s size at)
    unfolding lists dim_list var_list
    lists-refuse v w at =
        bind-refuses _ _ (bind-refuses _ _ (start-refuses _ _ _ _ at) (λ n p. items-refuse _ (λ _ q. dim-refuses _ q) n [] p)) (λ ds p.
        bind-refuses _ _ (attr_list-refuses _ 0 p) (λ gs q.
        bind-refuses _ _ (bind-refuses _ _ (start-refuses _ _ _ _ q) (λ n r. items-refuse _ (λ vs x. var-refuses _ _ x) n [] r)) (λ vs e. gives _ _)))

    -- and with 3 and 4 the whole header
    pub header-refuses : P 3 → P 4 → (a : Admitted) → Refuses P (header a s size)
    unfolding header magic version_byte lists
    header-refuses p3 p4 a =
        bind-refuses _ _ (test-refuses _ _ _ (test-refuses _ _ _ (gives _ _) (short p1 p2 s size)) (stops 3 _ p3)) (λ _ p.
        bind-refuses _ _ (test-refuses _ _ _ (test-refuses _ _ _ (gives _ _) (stops 4 _ p4)) (short p1 p2 s size)) (λ v q.
        bind-refuses _ _ (open_count-refuses _ q) (λ w r. lists-refuse v w r)))

  -- 11 to 15
  module _ (p13 : P 13) (p14 : P 14) where
    pub count-refuses : (t : Tables) → Refuses P (record_count t)
    unfolding record_count
    count-refuses t =
        test-refuses _ _ _
        (test-refuses _ _ _
        (test-refuses _ _ _ (test-refuses _ _ _ (test-refuses _ _ _ (gives _ _) (stops 13 _ p13)) (stops 14 _ p14)) (gives _ _))
        (gives _ _))
        (gives _ _)

    pub judged-refuses : P 11 → P 12 → P 15 → (s : List ℕ) (t : Tables) (e : ℕ) → Refuses P (judged s t e)
    unfolding judged
    judged-refuses p11 p12 p15 s t e =
        test-refuses _ _ _
        (test-refuses _ _ _ (bind-refuses _ _ (count-refuses t) (λ n _. test-refuses _ _ _ (gives _ _) (stops 15 _ p15))) (stops 12 _ p12))
        (stops 11 _ p11)
