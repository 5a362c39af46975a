use Rattle.writer.proofs.Laws.Rows.{Items}
use mathlib.Core.Path.{◌≡◌}
use Rattle.writer.proofs.rows.put_each.Given as goal

abbrev pub invariant-loop-item : goal.invariant-loop-item
invariant-loop-item g l = record {
  same : l.out.bytes.ghost_name ≡ l.initial.out.bytes.ghost_name;
  put : Items (g.I.Item.bytes l.text l.t) l.items l.initial.out.bytes.now l.initial.out.at l.out.bytes.now l.out.at l.item-index;
}
