use native.Mathlib.Omega.{arith}
use mathlib.Core.Path.{sym, ap, ◌∙◌}
use Rattle.guest32.specs.Guest.{low32, guest_rest, guest_step, opened}
use Rattle.guest32.proofs.Laws.Guest.{step-low, first-most, rest-is, opened-by, count-is}
use Rattle.guest32.proofs.guest.counted.Goals as goal

pub overflow_sub-rest : goal.overflow_sub-rest
overflow_sub-rest c = let m = first-most c.args.t.tables.now in omega (arith, c.first_begin.ensures)

pub returns-in-Some : goal.returns-in-Some
returns-in-Some c = let t = c.args.t.tables.now in c.in-Some.ensures.0 (opened (guest_rest t) (guest_step t)) ∙ count-is t

pub returns : goal.returns
returns c =
    let t = c.args.t.tables.now in
    let x = opened (guest_rest t) (guest_step t) in
    c.opened.ensures
    ∙ opened-by t (rest-is t c.first_begin.ensures) (ap low32 c.requires ∙ sym (step-low t))
    ∙ c.in_default.ensures.0 x ∙ count-is t
