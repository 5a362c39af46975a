use Prim.Native.Nat.{ℕ, ◌+◌, ◌*◌, ◌≤◌}
use native.Mathlib.Omega.{arith}
use mathlib.Core.Path.{ap, ◌∙◌}
use mathlib.Core.List.{◌++◌}
use lib.ListN.{length, drop}
use Rattle.bigendian.specs.Lists.{grid}
use Rattle.decode.specs.Inner.Chunks.{of_record}
use Rattle.bigendian.proofs.Laws.Lists.{row_in}
use Rattle.decode.proofs.Laws.Tabled.{tabled-none, tabled-more, row-of-part}
use Rattle.decode.proofs.strided.records.Goals as goal

pub loop-k-init : goal.loop-k-init
loop-k-init g c = tabled-none _ _ _

pub loop-k-preserved : goal.loop-k-preserved
loop-k-preserved g c =
    let t = g.T.Element in
    let a = c.args in
    let row = row_in _ _ a.chunk _ c.loop-k-test.true c.requires.chunk_in_bounds in
    let inside : c.loop-k.k * a.chunk + a.chunk ≤ length c.loop-k.out = omega arith in
    let end = ap (λ (w : ℕ). c.loop-k.k * a.stride + w * a.chunk) c.WIDTH.ensures in
    tabled-more _ _ _ _ c.loop-k.invariant (omega arith)
    (c.decode.ensures ∙ row-of-part t.value t.WIDTH a.src.now (c.loop-k.k * a.stride) _ c.loop-k.out (c.loop-k.k * a.chunk) a.chunk end inside)

pub returns : goal.returns
returns g c =
    let t = g.T.Element in
    c.loop-k.invariant.is
    ∙ ap (λ (k : ℕ). grid (of_record t.value t.WIDTH c.args.src.now c.args.stride) c.args.chunk k ++ drop (k * c.args.chunk) c.args.out.now) (omega arith)
