use Rattle.std.proofs.Common.{rules, arith, ◌≡◌, ◌+◌, ◌*◌, ◌/◌, ◌<◌, length, get_or}
use Rattle.std.proofs.lemmas.Grind.{common_steps}
use Rattle.bigendian.proofs.Laws.Lists.{length-tab}
use Rattle.hexlines.specs.Digit.{worth, pair}
use Rattle.hexlines.proofs.Laws.Digit.{digits-all, digits-not, two-more, none-spelled, one-more}
use Rattle.hexlines.proofs.line.decode.Goals as goal

pub loop-i-init : goal.loop-i-init
loop-i-init g c = (none-spelled c.args.text.now c.args.file.now.items c.requires.2, λ k l. absurd (omega arith))

pub returns-in_err-high-clause-value : goal.returns-in_err-high-clause-value
returns-in_err-high-clause-value g c =
    let w : worth (get_or c.args.text.now (2 * c.loop-i.i) 0) ≡ 16 = search rules in
    let n = digits-not (length c.args.text.now / 2 * 2) c.args.text.now (2 * c.loop-i.i) (omega arith) (omega (arith, w)) in
    grind (arith, common_steps, n)

pub returns-in_err-low-clause-value : goal.returns-in_err-low-clause-value
returns-in_err-low-clause-value g c =
    let w : worth (get_or c.args.text.now (2 * c.loop-i.i + 1) 0) ≡ 16 = search rules in
    let n = digits-not (length c.args.text.now / 2 * 2) c.args.text.now (2 * c.loop-i.i + 1) (omega arith) (omega (arith, w)) in
    grind (arith, common_steps, n)

pub push-requires : goal.push-requires
push-requires g c =
    let n = length-tab (pair c.args.text.now) c.loop-i.i in
    grind (arith, common_steps, n)

pub loop-i-preserved : goal.loop-i-preserved
loop-i-preserved g c =
    let l = c.loop-i in
    let high : (c.in_ok-high.high ≡ worth (get_or c.args.text.now (2 * l.i) 0)) × (c.in_ok-high.high < 16) = search rules in
    let low : (c.in_ok-low.low ≡ worth (get_or c.args.text.now (2 * l.i + 1) 0)) × (c.in_ok-low.low < 16) = search rules in (
      one-more c.args.text.now l.file.items c.push.new.self.items l.i _ _ l.invariant.0 c.push.ensures.items high.0 low.0,
      two-more c.args.text.now l.i l.invariant.1 (omega (arith, high)) (omega (arith, low)),
    )

pub returns-clause-value : goal.returns-clause-value
returns-clause-value g c =
    let a = digits-all (length c.args.text.now / 2 * 2) c.args.text.now (λ k h. c.loop-i.invariant.1 k (omega arith)) in
    grind (arith, common_steps, a)
