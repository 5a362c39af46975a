use mathlib.Core.Path.{◌≡◌}
use lib.ListN.{length}
use Rattle.grammar.specs.Tables.{no_var}
use Rattle.convert.specs.Convert.{moved, moved_var}
use Rattle.convert.proofs.Laws.Moved.{up_to}
use Rattle.convert.proofs.begins.moved_tables.Given as goal

abbrev pub invariant-loop-v : goal.invariant-loop-v
invariant-loop-v l = record {
  long : length l.v-items ≡ length l.initial.v-items;
  is : l.v-items ≡ up_to (moved_var (moved l.old l.new)) no_var l.v-index l.initial.v-items;
}
