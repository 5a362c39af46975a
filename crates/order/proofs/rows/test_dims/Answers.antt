use mathlib.Core.Path.{sym, ap}
use Prim.Native.Nat.{ℕ, ◌+◌}
use native.Mathlib.Omega.{arith}
use borrow.Author.Count.{below_none, below_more}
use Rattle.grammar.specs.Tables.{no_dim}
use Rattle.model.proofs.Laws.Rows.{row-of}
use Rattle.sizes.proofs.Laws.When.{some-when, none-when}
use Rattle.order.specs.Inner.Tests.{dims_tested, dim_rows_tested}
use Rattle.order.proofs.Laws.Chain.{fails, holds, ended, passed, row-fails, rows-hold}
use Rattle.order.proofs.Laws.Sums.{sum-none, sum_more, dims-all}
use Rattle.order.proofs.Laws.Tested.{dim-fails}
use Rattle.order.proofs.rows.test_dims.Goals as goal

pub loop-d-init : goal.loop-d-init
loop-d-init c = record { bound = omega arith; sum = sum-none _; inside = below_none _; tested = below_none _ }

pub returns-then-not-is_inside-clause-tested : goal.returns-then-not-is_inside-clause-tested
unfolding dim_rows_tested
returns-then-not-is_inside-clause-tested c =
    let t = c.args.t.tables.now in
    let ds = c.dims-d-items.ensures in
    let at = row-of t.ndims t.dims _ no_dim ds.rows ds.number c.loop-d-test.true in
    none-when _ _ (sym (ended _ (sym (row-fails _ c.loop-d.d-index (omega (arith, ds.number)) (fails (rw at at c.is_inside.ensures) c.if-not-is_inside.true)))))

pub returns-then-not-dim_holds-clause-tested : goal.returns-then-not-dim_holds-clause-tested
returns-then-not-dim_holds-clause-tested c =
    let t = c.args.t.tables.now in
    let ds = c.dims-d-items.ensures in
    let at = row-of t.ndims t.dims _ no_dim ds.rows ds.number c.loop-d-test.true in
    none-when _ _ (sym (dim-fails _ t _ (omega (arith, ds.number)) (fails (rw at at c.dim_holds.ensures) c.if-not-dim_holds.true)))

pub loop-d-preserved : goal.loop-d-preserved
loop-d-preserved c =
    let t = c.args.t.tables.now in
    let l = c.loop-d.invariant in
    let ds = c.dims-d-items.ensures in
    let at = row-of t.ndims t.dims _ no_dim ds.rows ds.number c.loop-d-test.true in
    record {
      bound = omega arith;
      sum = sum_more _ _ l.sum (ap (λ (n : ℕ). n + 4) (rw at at c.name_len.ensures));
      inside = below_more _ _ l.inside (holds (rw at at c.is_inside.ensures) c.if-not-is_inside.false);
      tested = below_more _ _ l.tested (holds (rw at at c.dim_holds.ensures) c.if-not-dim_holds.false);
    }

pub returns-clause-tested : goal.returns-clause-tested
unfolding dim_rows_tested dims_tested
returns-clause-tested c =
    let t = c.args.t.tables.now in
    let l = c.loop-d.invariant in
    let ds = c.dims-d-items.ensures in
    some-when _ _ (sym (passed (sym (rows-hold _ (omega (arith, ds.number)) l.inside)) (rows-hold _ (omega (arith, ds.number)) l.tested))) (dims-all t (omega (arith, ds.number)) l.sum)
