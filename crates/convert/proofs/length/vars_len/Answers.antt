use native.Mathlib.Omega.{arith}
use borrow.Author.Rules.{rules}
use mathlib.Core.Path.{◌≡◌, ap, ◌∙◌}
use lib.ListN.{length, get_or}
use Rattle.sizes.specs.Records.{total}
use Rattle.grammar.specs.Tables.{no_var}
use Rattle.order.proofs.Laws.Sums.{sum-none, sum_more}
use Rattle.convert.specs.Inner.Read.{var_length}
use Rattle.convert.proofs.Laws.Length.{span-length, both_same}
use Rattle.convert.proofs.length.vars_len.Goals as goal

pub loop-v-init : goal.loop-v-init
loop-v-init c = record { few = c.requires.few; small = omega arith; is = sum-none _ }

pub slice_bounds-attrs_len-end : goal.slice_bounds-attrs_len-end
slice_bounds-attrs_len-end c = omega (arith, c.requires.spans c.loop-v.v-index c.loop-v-test.true)

pub attrs_len-requires : goal.attrs_len-requires
attrs_len-requires c = search rules

pub loop-v-preserved : goal.loop-v-preserved
loop-v-preserved c =
    let v = get_or c.args.vars.now c.loop-v.v-index no_var in
    record {
      few = c.requires.few;
      small = omega (arith, c.var_len.ensures.1, c.attrs_len.ensures.1, c.loop-v.invariant.small);
      is = sum_more _ _ c.loop-v.invariant.is (both_same c.var_len.ensures.0 (c.attrs_len.ensures.0 ∙ span-length c.args.attrs.now v.first v.attrs (c.requires.spans c.loop-v.v-index c.loop-v-test.true)));
    }

pub returns : goal.returns
returns c =
    let e : c.loop-v.v-index ≡ length c.args.vars.now = omega arith in
    (c.loop-v.invariant.is ∙ ap (total (λ j. var_length c.args.version c.args.attrs.now (get_or c.args.vars.now j no_var))) e, omega arith)
