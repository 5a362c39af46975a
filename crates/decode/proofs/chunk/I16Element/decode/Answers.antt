use Prim.Native.Nat.{ℕ, ◌*◌}
use mathlib.Core.Path.{◌∙◌, refl, ap, subst}
use native.Mathlib.Omega.{arith}
use mir.Syntax.{w16}
use Rattle.bigendian.specs.Number.{be}
use Rattle.bigendian.specs.Lists.{tab}
use Rattle.decode.specs.Decoded.{short}
use Rattle.decode.specs.Inner.Chunks.{of_chunk}
use Rattle.decode.proofs.Laws.Decoded.{stored}
use Rattle.decode.proofs.Laws.Pairs.{pairs}
use Rattle.decode.proofs.Laws.Filled.{Filled, filled_none, filled-since, filled_on, filled-four, filled-all}
use Rattle.decode.proofs.chunk.I16Element.decode.Goals as goal

pub loop-j-init : goal.loop-j-init
loop-j-init c = filled_none _ _

pub loop-j-preserved : goal.loop-j-preserved
loop-j-preserved c =
    let src = c.args.src.now in
    let four = pairs src (λ i. (c.type_inv.src i).fits) (8 * c.loop-j.j) _ _ c.le64.ensures c.swap_pairs-x.ensures in
    filled-four _ _ c.loop-j.j c.loop-j.invariant (omega arith)
    (stored w16 c.cast_signed.type_inv c.cast_signed.ensures (c.low16.ensures ∙ four.0 ∙ ap (be 2 src) (omega arith)))
    (stored w16 c.cast_signed-in-loop-j.type_inv c.cast_signed-in-loop-j.ensures (c.low16-in-loop-j.ensures ∙ four.1 ∙ ap (be 2 src) (omega arith)))
    (stored w16 c.cast_signed-in-loop-j-2.type_inv c.cast_signed-in-loop-j-2.ensures (c.low16-in-loop-j-2.ensures ∙ four.2 ∙ ap (be 2 src) (omega arith)))
    (stored w16 c.cast_signed-in-loop-j-3.type_inv c.cast_signed-in-loop-j-3.ensures (c.low16-in-loop-j-3.ensures ∙ four.3 ∙ ap (be 2 src) (omega arith)))

pub loop-k-init : goal.loop-k-init
loop-k-init c = subst (λ (k : ℕ). Filled (of_chunk short 2 c.args.src.now) c.loop-j.out c.loop-j.out k) (omega arith) (filled-since _ _ c.loop-j.invariant)

pub loop-k-preserved : goal.loop-k-preserved
loop-k-preserved c = filled_on _ _ c.loop-k.invariant refl (omega arith) (omega arith) (stored w16 c.load.type_inv c.load.ensures refl)

pub returns : goal.returns
returns c =
    let long = c.loop-j.invariant.long in
    filled-all _ _ c.loop-k.invariant (omega arith) ∙ ap (tab (of_chunk short 2 c.args.src.now)) long
