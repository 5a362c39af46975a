use Rattle.std.proofs.Common.{arith, ap, sym, ◌∙◌, cond, Bool}
use Rattle.sizes.proofs.Laws.Records.{outer-within}
use Rattle.sizes.proofs.records.outer.Goals as goal

pub returns-then-is_record : goal.returns-then-is_record
returns-then-is_record c =
    let e = ap (λ (b : Bool). cond b 1 0) (sym c.if-is_record.true ∙ c.is_record.ensures) in
    (e, omega (arith, e, outer-within c.args.dims.now c.args.v.now))
