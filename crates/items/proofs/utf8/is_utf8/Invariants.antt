use Rattle.std.proofs.Common.{◌≡◌, drop, Some}
use Rattle.items.specs.Utf8.{utf8, scan}
use Rattle.items.proofs.utf8.is_utf8.Given as goal

abbrev pub invariant-loop-b : goal.invariant-loop-b
invariant-loop-b l = utf8 l.text ≡ scan (drop l.b-index l.text) (Some l.due)
