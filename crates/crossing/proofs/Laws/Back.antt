-- Loading what was stored gives the same tables.
use Prim.Native.Nat.{ℕ, zero, suc, ◌+◌, ◌*◌, ◌<◌}
use native.Mathlib.Omega.{arith}
use native.Mathlib.Nat.{not-suc-le-zero, eq-or-lt_of_le, le_of_suc-le-suc}
use mathlib.Core.Path.{◌≡◌, refl, sym, ap, ◌∙◌}
use mathlib.Core.Logic.{⊎_elim}
use mathlib.Core.List.{List, [], ◌∷◌, ◌++◌, append_assoc}
use lib.ListN.{length, get_or, length-append, get_or-append}
use lib.Seq.{get_or-append-add, ext_get_or}
use borrow.Author.Tests.{le-leb}
use Rattle.bigendian.specs.Lists.{tab}
use Rattle.bigendian.proofs.Laws.Lists.{length-tab, tab-ext, get_or-tab}
use Rattle.cdf.specs.Step.{got, test}
use Rattle.grammar.specs.Tables.{max_rank, no_dim, no_attr, no_var, dim_at, attr_at, var_at, id_at}
use Rattle.grammar.specs.declared.tables.Tables.{Tables}
use Rattle.crossing.specs.Words.{head_words, dim_words, attr_words, var_words, joined, dims_words, attrs_words, table_words, word_at, dim_of, attr_of, var_of, tables_of, Full, loaded}
use Rattle.crossing.proofs.Laws.Joined.{length-joined}
use Rattle.crossing.specs.Inner.Rows.{wide-dim, wide-attr, wide-var}
use Rattle.crossing.proofs.Laws.Stored.{length-head, length-dims, length-attrs, length-tables}

-- a list by its elements
tab-list : {A : Type 0} (z : A) (xs : List A) (n : ℕ) → length xs ≡ n → tab (λ k. get_or xs k z) n ≡ xs
tab-list z xs n e = let l = length-tab (λ k. get_or xs k z) n in ext_get_or z _ xs (l ∙ sym e) (λ i h. get_or-tab (λ k. get_or xs k z) n i z (omega arith))

-- word j of row i
module _ (f : ℕ → List ℕ) (m : ℕ) (wide : (i : ℕ) → length (f i) ≡ m) where
  in_row : (n i j : ℕ) (rest : List ℕ) → i < n → j < m → get_or (joined f n ++ rest) (m * i + j) 0 ≡ get_or (f i) j 0
  unfolding joined
  in_row zero i j rest h l = absurd (not-suc-le-zero h)
  in_row (suc n) i j rest h l =
      let w = length-joined f m wide n in
      let v = wide n in
      ap (λ (x : List ℕ). get_or x (m * i + j) 0) (append_assoc (joined f n) (f n) rest)
      ∙ ⊎_elim
      (λ (e : i ≡ n).
      ap (λ (k : ℕ). get_or (joined f n ++ (f n ++ rest)) (k + j) 0) (ap (λ (k : ℕ). m * k) e ∙ sym w)
      ∙ get_or-append-add (joined f n) (f n ++ rest) j 0
      ∙ get_or-append (f n) rest 0 j (omega arith)
      ∙ ap (λ (k : ℕ). get_or (f k) j 0) (sym e))
      (λ (q : i < n). in_row n i j (f n ++ rest) q l)
      (eq-or-lt_of_le (le_of_suc-le-suc h))

  -- and where other words stand before the rows
  past : (x : List ℕ) (n i j at : ℕ) (rest : List ℕ) → i < n → j < m → at ≡ length x + (m * i + j) → get_or (x ++ (joined f n ++ rest)) at 0 ≡ get_or (f i) j 0
  past x n i j at rest h l e = ap (λ (k : ℕ). get_or (x ++ (joined f n ++ rest)) k 0) e ∙ get_or-append-add x (joined f n ++ rest) (m * i + j) 0 ∙ in_row n i j rest h l

module _ (t : Tables) (rest : List ℕ) where
  abbrev words : List ℕ
  words = table_words t ++ rest

  in-dims : (i j at : ℕ) → i < 32 → j < 3 → at ≡ 8 + 3 * i + j → word_at words at ≡ get_or (dim_words (dim_at t i)) j 0
  unfolding table_words
  in-dims i j at h l e =
      ap (λ (x : List ℕ). get_or x at 0) (append_assoc (head_words t) _ rest ∙ ap (λ (x : List ℕ). head_words t ++ x) (append_assoc (dims_words t.dims) _ rest))
      ∙ past _ 3 (λ k. wide-dim (dim_at t k)) (head_words t) 32 i j at _ h l (omega (arith, length-head t))

  in-attrs : (i j at : ℕ) → i < 128 → j < 5 → at ≡ 104 + 5 * i + j → word_at words at ≡ get_or (attr_words (attr_at t i)) j 0
  unfolding table_words
  in-attrs i j at h l e =
      let k = length-append (head_words t) (dims_words t.dims) in
      ap (λ (x : List ℕ). get_or x at 0) (ap (λ (x : List ℕ). x ++ rest) (sym (append_assoc (head_words t) _ _)) ∙ append_assoc (head_words t ++ dims_words t.dims) _ rest ∙ ap (λ (x : List ℕ). (head_words t ++ dims_words t.dims) ++ x) (append_assoc (attrs_words t.attrs) _ rest))
      ∙ past _ 5 (λ k. wide-attr (attr_at t k)) (head_words t ++ dims_words t.dims) 128 i j at _ h l (omega (arith, length-head t, length-dims t))

  in-vars : (i j at : ℕ) → i < 64 → j < 16 → at ≡ 744 + 16 * i + j → word_at words at ≡ get_or (var_words (var_at t i)) j 0
  unfolding table_words
  in-vars i j at h l e =
      let k = length-append (head_words t) (dims_words t.dims) in
      let m = length-append (head_words t ++ dims_words t.dims) (attrs_words t.attrs) in
      ap (λ (x : List ℕ). get_or x at 0) (ap (λ (x : List ℕ). x ++ rest) (sym (append_assoc (head_words t ++ dims_words t.dims) _ _ ∙ append_assoc (head_words t) _ _)) ∙ append_assoc ((head_words t ++ dims_words t.dims) ++ attrs_words t.attrs) _ rest)
      ∙ past _ 16 (λ k. wide-var (var_at t k)) ((head_words t ++ dims_words t.dims) ++ attrs_words t.attrs) 64 i j at rest h l (omega (arith, length-head t, length-dims t, length-attrs t))

  dim-back : (i : ℕ) → i < 32 → dim_of words (8 + 3 * i) ≡ dim_at t i
  unfolding dim_of dim_words
  dim-back i h =
      λ k. record { name = in-dims i 0 (8 + 3 * i) h (omega arith) (omega arith) k; chars = in-dims i 1 (8 + 3 * i + 1) h (omega arith) refl k; length = in-dims i 2 (8 + 3 * i + 2) h (omega arith) refl k }

  attr-back : (i : ℕ) → i < 128 → attr_of words (104 + 5 * i) ≡ attr_at t i
  unfolding attr_of attr_words
  attr-back i h =
      λ k. record {
        name = in-attrs i 0 (104 + 5 * i) h (omega arith) (omega arith) k;
        chars = in-attrs i 1 (104 + 5 * i + 1) h (omega arith) refl k;
        code = in-attrs i 2 (104 + 5 * i + 2) h (omega arith) refl k;
        count = in-attrs i 3 (104 + 5 * i + 3) h (omega arith) refl k;
        values = in-attrs i 4 (104 + 5 * i + 4) h (omega arith) refl k;
      }

  ids-back : (i : ℕ) → i < 64 → length (var_at t i).ids ≡ 8 → tab (λ k. word_at words (744 + 16 * i + 8 + k)) max_rank ≡ (var_at t i).ids
  unfolding var_words
  ids-back i h e =
      tab-ext _ (id_at (var_at t i)) 8 (λ k l. in-vars i (8 + k) (744 + 16 * i + 8 + k) h (omega arith) (omega arith) ∙ get_or-append-add (_ ∷ _ ∷ _ ∷ _ ∷ _ ∷ _ ∷ _ ∷ _ ∷ []) (tab (id_at (var_at t i)) 8) k 0 ∙ get_or-tab (id_at (var_at t i)) 8 k 0 l)
      ∙ tab-list 0 (var_at t i).ids 8 e

  var-back : (i : ℕ) → i < 64 → length (var_at t i).ids ≡ 8 → var_of words (744 + 16 * i) ≡ var_at t i
  unfolding var_of var_words
  var-back i h e =
      λ k. record {
        name = in-vars i 0 (744 + 16 * i) h (omega arith) (omega arith) k;
        chars = in-vars i 1 (744 + 16 * i + 1) h (omega arith) refl k;
        ids = ids-back i h e k;
        rank = in-vars i 2 (744 + 16 * i + 2) h (omega arith) refl k;
        first = in-vars i 3 (744 + 16 * i + 3) h (omega arith) refl k;
        attrs = in-vars i 4 (744 + 16 * i + 4) h (omega arith) refl k;
        code = in-vars i 5 (744 + 16 * i + 5) h (omega arith) refl k;
        vsize = in-vars i 6 (744 + 16 * i + 6) h (omega arith) refl k;
        begin = in-vars i 7 (744 + 16 * i + 7) h (omega arith) refl k;
      }

  tables-back : Full t → tables_of words ≡ t
  unfolding tables_of table_words head_words
  tables-back full =
      let ds = tab-ext _ _ 32 dim-back ∙ tab-list no_dim t.dims 32 full.dims in
      let xs = tab-ext _ _ 128 attr-back ∙ tab-list no_attr t.attrs 128 full.attrs in
      let vs = tab-ext _ _ 64 (λ i h. var-back i h (full.ids i h)) ∙ tab-list no_var t.vars 64 full.vars in
      λ k. record { version = t.version; word = t.word; count = t.count; size = t.size; ndims = t.ndims; dims = ds k; nattrs = t.nattrs; globals = t.globals; attrs = xs k; nvars = t.nvars; vars = vs k }

pub loaded-stored : (t : Tables) → Full t → (rest : List ℕ) → loaded (table_words t ++ rest) ≡ got t 0
unfolding loaded test
loaded-stored t full rest =
    let l = length-append (table_words t) rest in
    rw (le-leb 1768 (length (table_words t ++ rest)) (omega (arith, length-tables t)), tables-back t rest full, full.fits)
