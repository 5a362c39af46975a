use native.Mathlib.Omega.{arith}
use mathlib.Core.Path.{ap, sym, ◌∙◌}
use lib.ListN.{length}
use Rattle.sizes.proofs.Laws.When.{when-some, when-none}
use Rattle.order.proofs.Laws.Rows.{full-rows}
use Rattle.writer.proofs.Laws.Writes.{writes-23, writes-22, writes-all, rows_in, out-is, out-length, put-header}
use Rattle.writer.proofs.header.write_header.Goals as goal

pub judged_in_place-requires : goal.judged_in_place-requires
judged_in_place-requires c = full-rows c.args.t _ c.well_formed.0

pub returns-in_default : goal.returns-in_default
returns-in_default c = writes-23 _ _ _ (when-none _ _ (sym c.judged_in_place.ensures ∙ c.in_default.is))

pub returns-then-out-length : goal.returns-then-out-length
returns-then-out-length c =
    let t = c.args.t in
    let full = full-rows t _ c.well_formed.0 in
    let w = when-some _ _ (sym c.judged_in_place.ensures ∙ c.in-Some.is) in
    let l = out-length c.args.text.now t full w.0 in
    writes-22 _ _ _ w.0 (omega (arith, w.1, c.if-out-length.true))

pub put_first-requires-clause-there : goal.put_first-requires-clause-there
put_first-requires-clause-there c = rows_in c.args.text.now c.args.t (full-rows c.args.t _ c.well_formed.0) (when-some _ _ (sym c.judged_in_place.ensures ∙ c.in-Some.is)).0

pub put_first-requires-clause-room : goal.put_first-requires-clause-room
put_first-requires-clause-room c =
    let t = c.args.t in
    let full = full-rows t _ c.well_formed.0 in
    let w = when-some _ _ (sym c.judged_in_place.ensures ∙ c.in-Some.is) in
    let l = out-length c.args.text.now t full w.0 in
    let m = ap length (out-is c.args.text.now t full w.0) in
    omega (arith, w.1, c.if-out-length.false)

pub returns : goal.returns
returns c =
    let t = c.args.t in
    let full = full-rows t _ c.well_formed.0 in
    let w = when-some _ _ (sym c.judged_in_place.ensures ∙ c.in-Some.is) in
    let l = out-length c.args.text.now t full w.0 in
    writes-all c.args.text.now t _ c.in-Some.length w.0 (omega (arith, w.1, c.if-out-length.false)) (omega (arith, w.1)) (put-header c.args.text.now t full w.0 c.args.out.now c.put_first.ensures)
