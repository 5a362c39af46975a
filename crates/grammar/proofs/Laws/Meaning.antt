-- Tables hold the tree that they lay out: what is read says what its tables say.
use Prim.Native.Nat.{ℕ, zero, suc, ◌+◌, ◌≤◌, ◌<◌}
use native.Mathlib.Omega.{arith}
use mathlib.Core.Path.{◌≡◌, refl, ap, sym, subst, ◌∙◌}
use mathlib.Core.List.{List, [], ◌∷◌, ◌++◌, map, append_assoc, append-nil}
use lib.ListN.{length, get_or, take, drop, length-append}
use Rattle.cdf.specs.Step.{got, into}
use Rattle.cdf.specs.declared.version.Admitted.{Admitted}
use Rattle.cdf.proofs.Laws.Step.{into-came}
use Rattle.grammar.specs.Tables.{padded, no_var, zero_var, no_dim, no_attr, var_row, var_rows, laid}
use Rattle.grammar.specs.Tree.{VarItem, Tree, attrs_of}
use Rattle.grammar.specs.Grammar.{header}
use Rattle.grammar.specs.Meaning.{item_of, held}
use Rattle.grammar.specs.Inner.Within.{Within, RowWithin}
use Rattle.grammar.specs.declared.tables.Attr.{Attr}
use Rattle.grammar.specs.declared.tables.Tables.{Tables}
use Rattle.grammar.proofs.Laws.Tables.{length-rows, get_or-padded}
use Rattle.grammar.proofs.Laws.Within.{read-within}

-- a part of a list is the same part of its rows
part-padded : {A : Type 0} (n : ℕ) (z : A) (xs ys zs : List A) → length (xs ++ (ys ++ zs)) ≤ n → take (length ys) (drop (length xs) (padded n z (xs ++ (ys ++ zs)))) ≡ ys
unfolding padded
part-padded n z [] [] zs h = refl
part-padded zero z [] (y ∷ ys) zs h = absurd (omega arith)
part-padded {A = A} (suc n) z [] (y ∷ ys) zs h = ap {B = List A} (λ r. y ∷ r) (part-padded n z [] ys zs (omega arith))
part-padded zero z (x ∷ xs) ys zs h = absurd (omega arith)
part-padded (suc n) z (x ∷ xs) ys zs h = part-padded n z xs ys zs (omega arith)

-- what stands first, and all
first-padded : {A : Type 0} (n : ℕ) (z : A) (ys zs : List A) → length (ys ++ zs) ≤ n → take (length ys) (padded n z (ys ++ zs)) ≡ ys
first-padded n z ys zs h = part-padded n z [] ys zs h

all-padded : {A : Type 0} (n : ℕ) (z : A) (ys : List A) → length ys ≤ n → take (length ys) (padded n z ys) ≡ ys
all-padded {A = A} n z ys h =
    let l = length-append ys [] in
    ap (λ (r : List A). take (length ys) (padded n z r)) (sym (append-nil ys)) ∙ first-padded n z ys [] (omega arith)

-- the variables of rows, whose attributes stand among all
rows-held : (all : List Attr) (first : ℕ) (old : List Attr) (vs : List VarItem) → all ≡ padded 128 no_attr (old ++ attrs_of vs) → first ≡ length old → length (old ++ attrs_of vs) ≤ 128
    → ((i : ℕ) → i < length vs → RowWithin (get_or (var_rows first vs) i no_var)) → map (item_of all) (var_rows first vs) ≡ vs
unfolding var_rows attrs_of
rows-held all first old [] p f h k = refl
rows-held all first old (v ∷ vs) p f h k =
    let head : item_of all (var_row first v) ≡ v = rw (p, f, all-padded 8 0 v.ids (k 0 (omega arith)).rank, part-padded 128 no_attr old v.attrs (attrs_of vs) h) in
    let l = length-append old v.attrs in
    let same = append_assoc old v.attrs (attrs_of vs) in
    let rest = rows-held all (first + length v.attrs) (old ++ v.attrs) vs (p ∙ ap (padded 128 no_attr) (sym same)) (omega arith) (rw same h) (λ i q. k (suc i) (omega arith)) in
    ap (λ (y : VarItem). y ∷ map (item_of all) (var_rows (first + length v.attrs) vs)) head ∙ ap (λ (r : List VarItem). v ∷ r) rest

pub laid-held : (h : Tree) → Within (laid h) → held (laid h) ≡ h
unfolding laid held
laid-held h k =
    let g = length h.globals in
    let rs = var_rows g h.vars in
    let l = length-rows g h.vars in
    let n = k.vars in
    let rows : take (length h.vars) (padded 64 zero_var rs) ≡ rs = rw (← l) (all-padded 64 zero_var rs (omega arith)) in
    let vars = rows-held _ g h.globals h.vars refl refl k.attrs (λ i q. rw (← get_or-padded 64 zero_var no_var rs i (omega arith) (omega arith)) (k.rows i q)) in
    rw (all-padded 32 no_dim h.dims k.dims, first-padded 128 no_attr h.globals (attrs_of h.vars) k.attrs, rows, vars)

-- the tree that was read can be had back from the tables
pub read_held : {t : Tables} {e : ℕ} (a : Admitted) (s : List ℕ) (size : ℕ) → got t e ≡ into laid (header a s size) → got (held t) e ≡ header a s size
read_held {t} {e} a s size f =
    let x = into-came laid _ f in
    ap (λ (h : Tree). got h e) (ap held x.2 ∙ laid-held x.0 (subst (λ (u : Tables). Within u) x.2 (read-within a s size f))) ∙ x.1
