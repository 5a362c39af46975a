-- What stands in an output after a variable's row, and after whole tables.
use Prim.Native.Nat.{ℕ, ◌≤◌, ◌<◌}
use native.Mathlib.Omega.{arith}
use mathlib.Core.Path.{◌≡◌, refl, ap, subst, ◌∙◌}
use mathlib.Core.List.{List, [], ◌∷◌, ◌++◌, append_assoc}
use lib.ListN.{length, drop, get_or, length-append}
use lib.Seq.{sets}
use borrow.Author.Tests.{le-leb, lt-leb}
use borrow.Rule.Slice.PartMut.{put_mid}
use Rattle.bigendian.specs.Lists.{tab}
use Rattle.cdf.specs.Step.{test, Leaves}
use Rattle.grammar.specs.Tables.{max_rank, id_at, no_dim, no_attr, no_var}
use Rattle.grammar.specs.declared.tables.Var.{Var}
use Rattle.grammar.specs.declared.tables.Tables.{Tables}
use Rattle.std.specs.List.{flat_map}
use Rattle.crossing.specs.Words.{head_words, dim_words, attr_words, var_words, dims_words, attrs_words, vars_words, table_words, stored}
use Rattle.crossing.proofs.Laws.Joined.{Begun, begun-sets, begun_more, rows-joined, length-joined}
use Rattle.crossing.specs.Inner.Rows.{wide-dim, wide-attr, wide-var}

-- a row: eight numbers, and the part with the ids
pub var-stored : (v : Var) (d : List ℕ) {y : List ℕ} → length d ≡ 16 → y ≡ tab (id_at v) max_rank
    → Begun d (put_mid 8 8 (sets d 0 (v.name ∷ v.chars ∷ v.rank ∷ v.first ∷ v.attrs ∷ v.code ∷ v.vsize ∷ v.begin ∷ [])) y) (var_words v)
unfolding var_words tab
var-stored v d l e =
    begun_more 8 16 _ (begun-sets d (v.name ∷ v.chars ∷ v.rank ∷ v.first ∷ v.attrs ∷ v.code ∷ v.vsize ∷ v.begin ∷ []) (omega arith)) e refl refl (omega arith)

module _ (t : Tables) where
  pub length-dims : length (dims_words t.dims) ≡ 96
  length-dims = length-joined _ 3 (λ i. wide-dim (get_or t.dims i no_dim)) 32

  pub length-attrs : length (attrs_words t.attrs) ≡ 640
  length-attrs = length-joined _ 5 (λ i. wide-attr (get_or t.attrs i no_attr)) 128

  length-vars : length (vars_words t.vars) ≡ 1024
  length-vars = length-joined _ 16 (λ i. wide-var (get_or t.vars i no_var)) 64

  pub length-head : length (head_words t) ≡ 8
  unfolding head_words
  length-head = refl

  -- the words of tables are 1768
  pub length-tables : length (table_words t) ≡ 1768
  unfolding table_words
  length-tables =
      let a = length-append (head_words t) (dims_words t.dims ++ (attrs_words t.attrs ++ vars_words t.vars)) in
      let b = length-append (dims_words t.dims) (attrs_words t.attrs ++ vars_words t.vars) in
      let c = length-append (attrs_words t.attrs) (vars_words t.vars) in
      omega (arith, length-head, length-dims, length-attrs, length-vars)

  -- eight numbers, and then a part for each list, in an output d
  module _ (d : List ℕ) (room : 1768 ≤ length d) {x : List ℕ} (p : x ≡ flat_map dim_words t.dims) (many : length t.dims ≡ 32) where
    pub dims-stored : Begun d (put_mid 8 96 (sets d 0 (head_words t)) x) (head_words t ++ dims_words t.dims)
    dims-stored = begun_more 8 104 _ (begun-sets d (head_words t) (omega (arith, length-head))) (p ∙ rows-joined dim_words no_dim t.dims 32 many) length-head (omega (arith, length-dims)) (omega arith)

    module _ {y : List ℕ} (q : y ≡ flat_map attr_words t.attrs) (several : length t.attrs ≡ 128) where
      pub attrs-stored : Begun d (put_mid 104 640 (put_mid 8 96 (sets d 0 (head_words t)) x) y) ((head_words t ++ dims_words t.dims) ++ attrs_words t.attrs)
      attrs-stored =
          let m = length-append (head_words t) (dims_words t.dims) in
          begun_more 104 744 _ dims-stored (q ∙ rows-joined attr_words no_attr t.attrs 128 several) (omega (arith, length-head, length-dims)) (omega (arith, length-attrs)) (omega arith)

      pub tables-stored : {z : List ℕ} → z ≡ flat_map var_words t.vars → length t.vars ≡ 64 → Begun d (put_mid 744 1024 (put_mid 104 640 (put_mid 8 96 (sets d 0 (head_words t)) x) y) z) (table_words t)
      unfolding table_words
      tables-stored r all =
          let m = length-append (head_words t) (dims_words t.dims) in
          let n = length-append (head_words t ++ dims_words t.dims) (attrs_words t.attrs) in
          subst (Begun d _) (append_assoc (head_words t ++ dims_words t.dims) _ _ ∙ append_assoc (head_words t) _ _)
          (begun_more 744 1768 _ attrs-stored (r ∙ rows-joined var_words no_var t.vars 64 all) (omega (arith, length-head, length-dims, length-attrs)) (omega (arith, length-vars)) (omega arith))

  -- the two answers
  module _ (out : List ℕ) where
    pub too_short : length out < 1768 → Leaves out (stored t out) 22 out
    unfolding stored test
    too_short h = rw (lt-leb 1768 (length out) h) (refl, refl)

    pub all-stored : {new : List ℕ} → 1768 ≤ length out → Begun out new (table_words t) → Leaves out (stored t out) 0 new
    unfolding stored test
    all-stored h b = rw (le-leb 1768 (length out) h) (refl, b.is ∙ ap (λ (n : ℕ). table_words t ++ drop n out) length-tables)
