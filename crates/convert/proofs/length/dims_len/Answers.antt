use Prim.Native.Nat.{ℕ, ◌+◌}
use native.Mathlib.Omega.{arith}
use borrow.Author.Rules.{rules}
use mathlib.Core.Path.{◌≡◌, ap, ◌∙◌}
use lib.ListN.{length, get_or}
use Rattle.sizes.specs.Records.{total}
use Rattle.grammar.specs.Tables.{no_dim}
use Rattle.order.specs.Inner.Lengths.{dim_length}
use Rattle.order.proofs.Laws.Sums.{sum-none, sum_more}
use Rattle.convert.proofs.length.dims_len.Goals as goal

pub loop-d-init : goal.loop-d-init
loop-d-init c = record { few = c.requires; small = omega arith; is = sum-none _ }

pub loop-d-preserved : goal.loop-d-preserved
loop-d-preserved c = record { few = c.requires; small = search rules; is = sum_more _ _ c.loop-d.invariant.is (ap (λ (n : ℕ). n + 4) c.name_len.ensures) }

pub returns : goal.returns
returns c =
    let e : c.loop-d.d-index ≡ length c.args.dims.now = omega arith in
    (c.loop-d.invariant.is ∙ ap (total (λ j. dim_length (get_or c.args.dims.now j no_dim))) e, omega arith)
