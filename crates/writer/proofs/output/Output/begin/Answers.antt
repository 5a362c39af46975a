use mathlib.Core.Path.{sym, ap, ◌∙◌}
use Prim.Native.Nat.{ℕ}
use Rattle.rules.specs.Rules.{spelled}
use Rattle.writer.proofs.Laws.Put.{put_is, eight-bytes, begin-eight}
use Rattle.writer.proofs.output.Output.begin.Goals as goal

pub returns-else-version-eq1-clause-put : goal.returns-else-version-eq1-clause-put
returns-else-version-eq1-clause-put c = put_is c.put.ensures.put (c.to_be_bytes.ensures ∙ eight-bytes c.args.v ∙ ap (λ (n : ℕ). spelled n c.args.v) (sym (begin-eight c.args.version c.if-version-eq1.false)))
