use mathlib.Core.Path.{ap, ◌∙◌}
use Prim.Native.Nat.{ℕ}
use mathlib.Core.List.{List}
use lib.ListN.{take, drop}
use Rattle.writer.proofs.Laws.Put.{put_is, four-bytes}
use Rattle.writer.proofs.output.Output.word.Goals as goal

pub returns-clause-put : goal.returns-clause-put
returns-clause-put c = put_is c.put.ensures.put (ap (λ (z : List ℕ). take 4 (drop 4 z)) c.to_be_bytes-bytes.ensures ∙ four-bytes c.args.v)
