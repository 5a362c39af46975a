use Rattle.std.proofs.Common.{◌≡◌, Bool, not, ap, sym, ◌∙◌, ltb, false, ◌&&◌}
use borrow.Author.Tests.{lt-ltb, le-ltb}
use Rattle.std.specs.List.{list_any}
use Rattle.model.specs.Model.{same_name}
use Rattle.model.specs.Inner.Rows.{new_after}
use Rattle.model.proofs.names.is_new.Goals as goal

-- the test of the rows before, where the name is not empty, and where it is
pub returns-then-name-gt0 : goal.returns-then-name-gt0
unfolding new_after
returns-then-name-gt0 g c =
    let s = c.args.s.now in
    let n = c.args.name in
    ap not c.taken.ensures
    ∙ ap (λ (b : Bool). b && not (list_any (λ r. same_name s (g.R.Named.span_of r) n) c.args.before.now)) (sym (lt-ltb 0 n.chars c.if-name-gt0.true))

pub returns-else-name-gt0 : goal.returns-else-name-gt0
unfolding new_after
returns-else-name-gt0 g c =
    let s = c.args.s.now in
    let n = c.args.name in
    let e : ltb 0 n.chars ≡ false = le-ltb 0 n.chars c.if-name-gt0.false in
    e ∙ ap (λ (b : Bool). b && not (list_any (λ r. same_name s (g.R.Named.span_of r) n) c.args.before.now)) (sym e)
