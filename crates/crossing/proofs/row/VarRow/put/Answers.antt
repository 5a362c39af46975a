use Prim.Native.Nat.{ℕ, ◌+◌, ◌≤◌}
use native.Mathlib.Omega.{arith}
use mathlib.Core.Path.{refl, sym, ap, ◌∙◌}
use mathlib.Core.List.{[], ◌∷◌}
use lib.ListN.{length, length-set}
use borrow.Author.Rules.{rules}
use Rattle.bigendian.proofs.Laws.Lists.{length-tab}
use Rattle.crossing.proofs.Laws.Joined.{begun-sets, begun_more, begun-long, begun_all}
use Rattle.crossing.specs.Inner.Rows.{wide-var}
use Rattle.crossing.proofs.Laws.Stored.{var-stored}
use Rattle.crossing.proofs.row.VarRow.put.Goals as goal

pub bounds-out-4 : goal.bounds-out-4
bounds-out-4 c = simp length-set (omega arith)

pub bounds-out-5 : goal.bounds-out-5
bounds-out-5 c = simp length-set (omega arith)

pub bounds-out-6 : goal.bounds-out-6
bounds-out-6 c = simp length-set (omega arith)

pub bounds-out-7 : goal.bounds-out-7
bounds-out-7 c = simp length-set (omega arith)

pub slice_bounds-put_ids-end : goal.slice_bounds-put_ids-end
slice_bounds-put_ids-end c = simp length-set (search rules)

pub shape_of-out : goal.shape_of-out
shape_of-out c =
    let out = c.args.out.now in
    let h : 8 ≤ length out = omega arith in
    let l : 16 ≤ length out = omega arith in
    begun-long (begun_more 8 16 _ (begun-sets out (_ ∷ _ ∷ _ ∷ _ ∷ _ ∷ _ ∷ _ ∷ _ ∷ []) h) c.put_ids.ensures refl (ap (λ (n : ℕ). 8 + n) (length-tab _ 8)) l)

pub returns : goal.returns
returns c =
    begun_all (var-stored c.args.self c.args.out.now c.requires c.put_ids.ensures) (wide-var c.args.self ∙ sym c.requires)
