use Rattle.items.specs.Types.{size_of}
use mathlib.Core.Bool.{Bool, cond}
use mathlib.Core.Path.{ap, ◌∙◌}
use Rattle.found.proofs.Laws.Sought.{described}
use Rattle.found.proofs.variable.described.Goals as goal

pub returns : goal.returns
returns c = let p = c.requires in described c.args.t.now c.args.v.now (c.records_of.ensures ∙ ap (λ (x : Bool). cond x c.args.t.now.count 1) c.is_record.ensures) p.4 c.chunk_len.ensures p.3 (c.size_of.ensures ∙ ap size_of c.of_code-kind.ensures)
