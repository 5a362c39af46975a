use native.Mathlib.Omega.{arith}
use Prim.Native.Nat.{◌/◌}
use mathlib.Core.Path.{◌≡◌}
use lib.ListN.{length}
use Rattle.writer.proofs.Laws.Put.{put-none, put-eight, put-rest}
use Rattle.writer.proofs.output.copy_eights.Goals as goal

pub loop-j-init : goal.loop-j-init
loop-j-init c = put-none _ c.args.more.now _

pub loop-j-preserved : goal.loop-j-preserved
loop-j-preserved c = put-eight c.args.more.now _ c.loop-j.j (omega (arith, c.loop-j-test.true)) c.requires c.loop-j.invariant c.copy_bytes.ensures

pub returns : goal.returns
returns c =
    let more = c.args.more.now in
    let all : c.loop-j.j ≡ length more / 8 = omega (arith, c.loop-j-test.false) in
    put-rest _ _ (omega arith) (omega arith) c.requires (rw all at c.loop-j.invariant) c.copy_bytes-2.ensures
