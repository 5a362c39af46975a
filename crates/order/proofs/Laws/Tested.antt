-- One row that is not in range, and the test of all.
use Prim.Native.Nat.{ℕ, ◌<◌}
use mathlib.Core.Path.{◌≡◌, sym}
use mathlib.Core.Bool.{false}
use mathlib.Core.List.{List}
use Rattle.cdf.specs.Below.{all_below}
use Rattle.grammar.specs.Tables.{dim_at, var_at}
use Rattle.grammar.specs.declared.tables.Tables.{Tables}
use Rattle.order.specs.Writable.{dim_inside, var_inside}
use Rattle.order.specs.Inner.Tests.{dim_tested, var_all_tested, dims_tested, vars_tested, attributes_tested, dim_rows_tested, var_rows_tested}
use Rattle.order.proofs.Laws.Chain.{ended, later, row-fails}

module _ (s : List ℕ) (t : Tables) where
  pub dim-fails : (i : ℕ) → i < t.ndims → dim_tested s (dim_at t i) ≡ false → false ≡ dim_rows_tested s t
  unfolding dim_rows_tested dims_tested
  dim-fails i l e = later (all_below t.ndims (dim_inside s t)) (sym (row-fails (λ i. dim_tested s (dim_at t i)) i l e))

  pub var-fails : (i : ℕ) → i < t.nvars → var_all_tested s t (var_at t i) ≡ false → false ≡ var_rows_tested s t
  unfolding var_rows_tested vars_tested
  var-fails i l e = later (all_below t.nvars (var_inside s t)) (sym (ended (attributes_tested t) (sym (row-fails (λ i. var_all_tested s t (var_at t i)) i l e))))
