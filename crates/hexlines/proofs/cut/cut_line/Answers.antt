use Rattle.std.proofs.Common.{rules, arith}
use Rattle.std.proofs.lemmas.Grind.{common_steps}
use Rattle.hexlines.proofs.Laws.Cut.{before-position, pos_le}
use Rattle.hexlines.proofs.cut.cut_line.Goals as goal

pub returns-in-Some : goal.returns-in-Some
returns-in-Some g c =
    let e = c.line_end.ensures in
    let b = before-position c.args.block.now in
    record { closed = grind (arith, common_steps, e, b, c.in-Some.is); unclosed = search rules; line = grind (arith, common_steps, e, b, c.in-Some.is, c.keep.ensures) }

pub returns-in-None : goal.returns-in-None
returns-in-None g c =
    let e = c.line_end.ensures in
    let b = before-position c.args.block.now in
    let h = pos_le c.args.block.now in
    record { closed = search rules; unclosed = grind (arith, common_steps, e, b, h, c.in-None.is); line = grind (arith, common_steps, e, b, c.in-None.is, c.keep-in-None.ensures) }
