use Prim.Native.Nat.{◌*◌, ◌≤◌}
use mathlib.Core.Path.{◌≡◌}
use lib.ListN.{length, get_or}
use Rattle.sizes.specs.Records.{total}
use Rattle.grammar.specs.Tables.{no_var}
use Rattle.convert.specs.Inner.Read.{var_length}
use Rattle.convert.proofs.length.vars_len.Given as goal

abbrev pub invariant-loop-v : goal.invariant-loop-v
invariant-loop-v l = record {
  few : length l.vars ≤ 64;
  small : l.sum ≤ l.v-index * 17592186044416;
  is : l.sum ≡ total (λ j. var_length l.version l.attrs (get_or l.vars j no_var)) l.v-index;
}
