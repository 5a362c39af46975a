use Rattle.std.proofs.Common.{arith, ◌-◌, length}
use Rattle.std.proofs.lemmas.Grind.{common_steps}
use Rattle.hexlines.proofs.Laws.Cut.{take-room, take-min, take-grow}
use Rattle.hexlines.specs.Inner.Cut.{kept}
use Rattle.hexlines.proofs.cut.keep.Goals as goal

pub returns : goal.returns
returns g c =
    let x = c.truncate.new.self.items in
    let room = kept - length x in
    let t = take-room kept room x c.args.more.now (omega (arith, c.truncate.ensures)) in
    let m = take-min room c.args.more.now in
    let w = take-grow kept c.args.line.now.items c.args.more.now in
    grind (arith, common_steps, t, m, w)
