use native.Mathlib.Omega.{arith}
use mathlib.Core.Path.{refl}
use Rattle.writer.proofs.Laws.Put.{put-none, put-more, put_all}
use Rattle.writer.proofs.output.copy_bytes.Goals as goal

pub loop-i-init : goal.loop-i-init
loop-i-init c = put-none _ c.args.more.now _

pub loop-i-preserved : goal.loop-i-preserved
loop-i-preserved c = put-more _ _ _ _ _ _ (omega arith) c.requires refl c.loop-i.invariant

pub returns : goal.returns
returns c = put_all _ _ _ _ _ (omega arith) c.loop-i.invariant
