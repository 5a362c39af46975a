-- The tables of a header that was read are within the capacities, and so have the shape that reads ask for.
use Prim.Native.Nat.{ℕ, ◌+◌, ◌-◌, ◌≤◌, ◌<◌}
use native.Mathlib.Omega.{arith}
use native.Mathlib.Nat.{not-suc-le-zero}
use mathlib.Core.Path.{◌≡◌, ap, subst, sym, ◌∙◌}
use mathlib.Core.Logic.{⊎_elim}
use mathlib.Core.List.{List, [], ◌∷◌, ◌++◌}
use lib.ListN.{length, get_or, length-append, get_or-append}
use lib.Seq.{get_or-append_seam}
use Rattle.cdf.specs.Step.{got, into}
use Rattle.cdf.specs.Form.{Form, form}
use Rattle.cdf.specs.declared.version.Admitted.{Admitted}
use Rattle.cdf.proofs.Laws.Below.{order}
use Rattle.cdf.proofs.Laws.Word.{nelems-within}
use Rattle.cdf.proofs.Laws.ListStart.{start-within}
use Rattle.cdf.proofs.Laws.Step.{bind-came, got_same, into-came, items-length, items_keep}
use Rattle.grammar.specs.Tables.{no_var, zero_var, var_row, var_rows, laid}
use Rattle.grammar.specs.Inner.Parts.{vars}
use Rattle.grammar.specs.Tree.{VarItem, Tree, attrs_of}
use Rattle.grammar.specs.Dims.{dim_list}
use Rattle.grammar.specs.Vars.{var, var_list}
use Rattle.grammar.specs.Grammar.{header}
use Rattle.grammar.specs.Inner.Within.{Within, RowWithin, Shaped, RowShaped}
use Rattle.grammar.specs.declared.tables.Dim.{Dim}
use Rattle.grammar.specs.declared.tables.Var.{Var}
use Rattle.grammar.specs.declared.tables.Tables.{Tables}
use Rattle.grammar.proofs.Laws.Tables.{get_or-padded, length_more, length-rows, attrs_of-more, rows_more}
use Rattle.grammar.specs.Attrs.{attr_list}
use Rattle.items.proofs.Laws.Types.{type-within}
use Rattle.grammar.specs.declared.tables.Attr.{Attr}

row-shaped : {v : Var} → RowWithin v → RowShaped v
row-shaped r = record { rank = r.rank; low = r.low; high = r.high }

pub within-shaped : {t : Tables} → Within t → Shaped t
within-shaped k = record { dims = k.dims; vars = k.vars; rows = λ i h. row-shaped (k.rows i h) }

-- every row of a list is within the capacities
abbrev Rows : List Var → Type 0
Rows rs = (i : ℕ) → i < length rs → RowWithin (get_or rs i no_var)

rows_last : (rs : List Var) (r : Var) → Rows rs → RowWithin r → Rows (rs ++ (r ∷ []))
rows_last rs r old new i h =
    let l = length_more rs r in
    ⊎_elim
    (λ (q : length rs ≤ i). let e : i ≡ length rs = omega arith in subst RowWithin (rw e (sym (get_or-append_seam rs r [] no_var))) new)
    (λ (q : i < length rs). subst RowWithin (sym (get_or-append rs (r ∷ []) no_var i q)) (old i q))
    (order (length rs) i)

module _ (f : Form) (s : List ℕ) (size : ℕ) where
  dim_list-within : {ds : List Dim} {e : ℕ} (at : ℕ) → got ds e ≡ dim_list f s size at → length ds ≤ 32
  unfolding dim_list
  dim_list-within {ds} at e = bind-came _ _ e (length ds ≤ 32) (λ n p c g. let l = items-length _ _ _ _ g in let m = start-within _ _ _ 32 _ _ _ c in omega arith)

  pub attr_list-within : {xs : List Attr} {e : ℕ} (used at : ℕ) → got xs e ≡ attr_list f s size used at → length xs ≤ 128 - used
  unfolding attr_list
  attr_list-within {xs} used at e =
      bind-came _ _ e (length xs ≤ 128 - used) (λ n p c g. let l = items-length _ _ _ _ g in let m = start-within _ _ _ (128 - used) _ _ _ c in omega arith)

module _ (version : ℕ) (s : List ℕ) (size : ℕ) where
  var-within : {v : VarItem} {e : ℕ} (used at : ℕ) → used ≤ 128 → got v e ≡ var (form version) s size used at → RowWithin (var_row used v)
  unfolding var
  var-within {v} used at u e =
      bind-came _ _ e (RowWithin (var_row used v)) (λ n p _ f.
      bind-came _ _ f (RowWithin (var_row used v)) (λ k q count f.
      bind-came _ _ f (RowWithin (var_row used v)) (λ is r ids f.
      bind-came _ _ f (RowWithin (var_row used v)) (λ xs x attrs f.
      bind-came _ _ f (RowWithin (var_row used v)) (λ code y type f.
      bind-came _ _ f (RowWithin (var_row used v)) (λ z w _ f.
      bind-came _ _ f (RowWithin (var_row used v)) (λ b e _ f.
      let l = items-length _ _ _ _ ids in
      let m = nelems-within _ _ _ _ 8 count in
      let a = attr_list-within (form version) s size used r attrs in
      let c = type-within 6 s size x type in
      subst (λ (x : VarItem). RowWithin (var_row used x)) (sym (got_same f)) (record { rank = omega arith; span = omega arith; low = c.0; high = c.1 }))))))))

  none_within : (used : ℕ) → used ≤ 128 → (used + length (attrs_of []) ≤ 128) × Rows (var_rows used [])
  unfolding attrs_of var_rows
  none_within used u = (omega arith, λ i h. absurd (not-suc-le-zero h))

  vars-within : {vs : List VarItem} {e : ℕ} (used n at : ℕ) → used ≤ 128 → got vs e ≡ vars (form version) used n s size at → (used + length (attrs_of vs) ≤ 128) × Rows (var_rows used vs)
  unfolding vars
  vars-within used n at u e =
      items_keep (λ (vs : List VarItem). (used + length (attrs_of vs) ≤ 128) × Rows (var_rows used vs)) _
      (λ vs x at q k c.
      let r = var-within (used + length (attrs_of vs)) at k.0 c in
      let l = r.span in
      let a = ap length (attrs_of-more vs x) in
      let b = length-append (attrs_of vs) x.attrs in
      (omega arith, rw (rows_more used vs x) (rows_last (var_rows used vs) _ k.1 r)))
      n [] at (none_within used u) e

-- a tree by the numbers of its items
tree-within : (h : Tree) → length h.dims ≤ 32 → length h.vars ≤ 64 → length h.globals + length (attrs_of h.vars) ≤ 128 → Rows (var_rows (length h.globals) h.vars) → Within (laid h)
unfolding laid
tree-within h d n a r =
    let g = length h.globals in
    let l = length-rows g h.vars in
    let b = length-append h.globals (attrs_of h.vars) in
    record {
      dims = d;
      attrs = omega arith;
      globals = omega arith;
      vars = n;
      rows = λ i k. subst RowWithin (sym (get_or-padded 64 zero_var no_var (var_rows g h.vars) i (omega arith) (omega arith))) (r i (omega arith));
    }

pub read-within : {t : Tables} {e : ℕ} (a : Admitted) (s : List ℕ) (size : ℕ) → got t e ≡ into laid (header a s size) → Within t
unfolding header var_list vars
read-within {t} a s size e =
    let x = into-came laid _ e in
    bind-came _ _ x.1 (Within t) (λ _ _ _ f.
    bind-came _ _ f (Within t) (λ v _ _ f.
    bind-came _ _ f (Within t) (λ w at _ f.
    bind-came _ _ f (Within t) (λ ds p dims f.
    bind-came _ _ f (Within t) (λ gs q globals f.
    bind-came _ _ f (Within t) (λ vs r list f.
    bind-came _ _ list (Within t) (λ n y start vars.
    let g = attr_list-within (form v) s size 0 p globals in
    let k = vars-within v s size (length gs) n y (omega arith) vars in
    let m = start-within _ _ _ 64 _ _ _ start in
    let l = items-length _ _ _ _ vars in
    subst Within (sym (x.2 ∙ ap laid (got_same f))) (tree-within _ (dim_list-within (form v) s size at dims) (omega arith) k.0 k.1))))))))
