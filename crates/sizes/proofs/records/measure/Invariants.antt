use Prim.Native.Nat.{ℕ, ◌≤◌, ◌<◌}
use mathlib.Core.Path.{◌≡◌}
use mathlib.Core.Bool.{true}
use Rattle.sizes.specs.Records.{max_chunk}
use Rattle.sizes.specs.Inner.Sizes.{placed}
use Rattle.sizes.proofs.Laws.Count.{sizes_upto}
use Rattle.sizes.proofs.records.measure.Given as goal

abbrev pub invariant-loop-v : goal.invariant-loop-v
invariant-loop-v l =
    record {
      placed : (k : ℕ) → k < l.v-index → placed l.t k ≡ true;
      upto : l.z ≡ sizes_upto l.t l.v-index;
      bound : l.z.step ≤ max_chunk;
    }
