-- The unlimited dimension is a variable's first, where the ids hold.
use Prim.Native.Nat.{ℕ, ◌≤◌, ◌<◌}
use native.Mathlib.Omega.{arith}
use mathlib.Core.Path.{◌≡◌, sym, ◌∙◌}
use mathlib.Core.Logic.{⊎_elim}
use mathlib.Core.Bool.{Bool, true, false, ◌||◌, not}
use lib.Dec.{ltb, eqb}
use borrow.Author.Tests.{eq-eqb, ne_eqb}
use Rattle.cdf.proofs.Laws.Below.{order, both, holds_at}
use Rattle.grammar.specs.Tables.{var_at, id_at, dim_at}
use Rattle.model.specs.Model.{id_holds, ids_hold}
use Rattle.sizes.specs.Records.{length_at}
use Rattle.grammar.specs.declared.tables.Var.{Var}
use Rattle.grammar.specs.declared.tables.Tables.{Tables}

holds-fixed : (t : Tables) (v : Var) (k : ℕ) → id_holds t v k ≡ true → 0 < k → length_at t.dims v k ≡ 0 → ⊥
unfolding id_holds
holds-fixed t v k e p z =
    let r = (both (ltb (id_at v k) t.ndims) _ e).1 in
    let f : (eqb k 0 || not (eqb (dim_at t (id_at v k)).length 0)) ≡ false = rw (ne_eqb k 0 (λ q. omega arith), eq-eqb (dim_at t (id_at v k)).length 0 z) in
    let n : ◌≡◌ {A = Bool} true false = sym r ∙ f in
    let m : ◌≡◌ {A = ℕ} 0 1 = cc in
    omega arith

pub only-first : (t : Tables) → ids_hold t ≡ true → (i : ℕ) → i < t.nvars → (k : ℕ) → k < (var_at t i).rank → length_at t.dims (var_at t i) k ≡ 0 → k ≡ 0
unfolding ids_hold
only-first t ids i inside k l z =
    let own = holds_at (id_holds t (var_at t i)) (var_at t i).rank k (holds_at _ t.nvars i ids inside) l in
    ⊎_elim (λ (h : k ≤ 0). omega arith) (λ (h : 0 < k). absurd (holds-fixed t (var_at t i) k own h z)) (order k 0)
