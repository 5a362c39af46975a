use native.Mathlib.Omega.{arith}
use Prim.Native.Nat.{ℕ}
use mathlib.Core.Path.{◌≡◌, sym, ap, ◌∙◌}
use Rattle.cdf.specs.Step.{Step, stop}
use Rattle.guest32.specs.Guest.{guest_count}
use Rattle.sizes.proofs.Laws.When.{when-some, when-none}
use Rattle.sizes.proofs.Laws.Records.{sum-in}
use Rattle.found.proofs.Laws.Sought.{tables-parts}
use Rattle.guest32.proofs.Laws.Guest.{guest-tables, guest-refused, guest-counted}
use Rattle.guest32.proofs.guest.guest32.Goals as goal

pub returns-in_default : goal.returns-in_default
returns-in_default c = guest-tables _ (when-none _ _ (sym c.tables_hold.ensures ∙ c.in_default.is))

pub invariant_of-checked : goal.invariant_of-checked
invariant_of-checked c = let h = tables-parts _ (when-some _ _ (sym c.tables_hold.ensures ∙ c.in-Some.is)).0 in record { shaped = h.shape; ids = h.ids }

pub first_foreign-requires : goal.first_foreign-requires
first_foreign-requires c =
    let t = c.args.t.now in
    let w = when-some _ _ (sym c.tables_hold.ensures ∙ c.in-Some.is) in
    let m = sum-in t (tables-parts t w.0).sizes in
    omega (arith, w.1)

pub returns-in-Err : goal.returns-in-Err
returns-in-Err c =
    let hold = (when-some _ _ (sym c.tables_hold.ensures ∙ c.in-Some.is)).0 in
    let e : ◌≡◌ {A = Step ℕ} (stop c.number.result 0) (guest_count c.args.t.now) = ap (λ (k : ℕ). stop k 0) c.number.ensures ∙ c.in-Err.ensures in
    guest-refused _ hold c.first_cut-cut.ensures e

pub returns-in-Ok : goal.returns-in-Ok
returns-in-Ok c = let w = when-some _ _ (sym c.tables_hold.ensures ∙ c.in-Some.is) in guest-counted _ w.0 c.first_cut-cut.ensures c.in-Ok.ensures (c.first_foreign.ensures c.args.t.now w.1)
