use mathlib.Core.Path.{sym, ◌∙◌}
use Rattle.grammar.proofs.Laws.Within.{within-shaped}
use Rattle.sizes.proofs.Laws.When.{when-some, when-none, some-when, none-when}
use Rattle.order.specs.Inner.Tests.{tested}
use Rattle.order.proofs.Laws.Chain.{fails, holds, ended, passed}
use Rattle.order.proofs.Laws.Said.{counts-see, attrs-see, rows-see, within, model-ids, writable-not, writable-by}
use Rattle.order.proofs.Laws.Sums.{header-by}
use Rattle.order.proofs.writable.judged_in_place.Goals as goal

pub returns-then-not-counts_hold : goal.returns-then-not-counts_hold
unfolding tested
returns-then-not-counts_hold c =
    none-when _ _ (sym (writable-not _ _ c.requires (sym (ended _ (fails c.counts_hold.ensures c.if-not-counts_hold.true)))))

pub invariant_of-bounded : goal.invariant_of-bounded
invariant_of-bounded c = let k = counts-see _ (holds c.counts_hold.ensures c.if-not-counts_hold.false) in record { dims = k.0; vars = k.1; attrs = k.2; globals = k.3 }

pub returns-in_err-dims : goal.returns-in_err-dims
unfolding tested
returns-in_err-dims c =
    let counts = holds c.counts_hold.ensures c.if-not-counts_hold.false in
    c.from_residual.ensures ∙ none-when _ _ (sym (writable-not _ _ c.requires (sym (passed counts (ended _ (when-none _ _ (sym c.test_dims.ensures.tested ∙ c.in_err-dims.was)))))))

pub returns-in_err-globals : goal.returns-in_err-globals
unfolding tested
returns-in_err-globals c =
    let counts = holds c.counts_hold.ensures c.if-not-counts_hold.false in
    let dims = when-some _ _ (sym c.test_dims.ensures.tested ∙ c.in_ok-dims.was) in
    c.from_residual-in_err-globals.ensures ∙ none-when _ _ (sym (writable-not _ _ c.requires (sym (passed counts (passed dims.0 (ended _ (when-none _ _ (sym c.test_attrs.ensures.tested ∙ c.in_err-globals.was))))))))

pub test_vars-requires : goal.test_vars-requires
test_vars-requires c = attrs-see _ _ (when-some _ _ (sym c.test_attrs.ensures.tested ∙ c.in_ok-globals.was)).0

pub returns-in_err-vars : goal.returns-in_err-vars
unfolding tested
returns-in_err-vars c =
    let counts = holds c.counts_hold.ensures c.if-not-counts_hold.false in
    let dims = when-some _ _ (sym c.test_dims.ensures.tested ∙ c.in_ok-dims.was) in
    let globals = when-some _ _ (sym c.test_attrs.ensures.tested ∙ c.in_ok-globals.was) in
    c.from_residual-in_err-vars.ensures ∙ none-when _ _ (sym (writable-not _ _ c.requires (sym (passed counts (passed dims.0 (passed globals.0 (ended _ (when-none _ _ (sym c.test_vars.ensures.tested ∙ c.in_err-vars.was)))))))))

pub model_holds-requires : goal.model_holds-requires
model_holds-requires c =
    let counts = holds c.counts_hold.ensures c.if-not-counts_hold.false in
    let dims = when-some _ _ (sym c.test_dims.ensures.tested ∙ c.in_ok-dims.was) in
    let globals = when-some _ _ (sym c.test_attrs.ensures.tested ∙ c.in_ok-globals.was) in
    let vars = when-some _ _ (sym c.test_vars.ensures.tested ∙ c.in_ok-vars.was) in
    within _ _ (rows-see c.args.text.now c.args.t.now counts dims.0 globals.0 vars.0)

pub returns-then-not-model_holds : goal.returns-then-not-model_holds
unfolding tested
returns-then-not-model_holds c =
    let counts = holds c.counts_hold.ensures c.if-not-counts_hold.false in
    let dims = when-some _ _ (sym c.test_dims.ensures.tested ∙ c.in_ok-dims.was) in
    let globals = when-some _ _ (sym c.test_attrs.ensures.tested ∙ c.in_ok-globals.was) in
    let vars = when-some _ _ (sym c.test_vars.ensures.tested ∙ c.in_ok-vars.was) in
    none-when _ _ (sym (writable-not _ _ c.requires (sym (passed counts (passed dims.0 (passed globals.0 (passed vars.0 (ended _ (fails c.model_holds.ensures c.if-not-model_holds.true)))))))))

pub invariant_of-sizes_hold : goal.invariant_of-sizes_hold
invariant_of-sizes_hold c =
    let counts = holds c.counts_hold.ensures c.if-not-counts_hold.false in
    let dims = when-some _ _ (sym c.test_dims.ensures.tested ∙ c.in_ok-dims.was) in
    let globals = when-some _ _ (sym c.test_attrs.ensures.tested ∙ c.in_ok-globals.was) in
    let vars = when-some _ _ (sym c.test_vars.ensures.tested ∙ c.in_ok-vars.was) in
    let model = holds c.model_holds.ensures c.if-not-model_holds.false in
    record { shaped = within-shaped (within _ _ (rows-see c.args.text.now c.args.t.now counts dims.0 globals.0 vars.0)); ids = model-ids c.args.text.now c.args.t.now model }

pub returns-then-not-sizes_hold : goal.returns-then-not-sizes_hold
unfolding tested
returns-then-not-sizes_hold c =
    let counts = holds c.counts_hold.ensures c.if-not-counts_hold.false in
    let dims = when-some _ _ (sym c.test_dims.ensures.tested ∙ c.in_ok-dims.was) in
    let globals = when-some _ _ (sym c.test_attrs.ensures.tested ∙ c.in_ok-globals.was) in
    let vars = when-some _ _ (sym c.test_vars.ensures.tested ∙ c.in_ok-vars.was) in
    let model = holds c.model_holds.ensures c.if-not-model_holds.false in
    none-when _ _ (sym (writable-not _ _ c.requires (sym (passed counts (passed dims.0 (passed globals.0 (passed vars.0 (passed model (sym (fails c.sizes_hold.ensures c.if-not-sizes_hold.true))))))))))

pub size_holds-requires : goal.size_holds-requires
size_holds-requires c =
    let dims = when-some _ _ (sym c.test_dims.ensures.tested ∙ c.in_ok-dims.was) in
    let globals = when-some _ _ (sym c.test_attrs.ensures.tested ∙ c.in_ok-globals.was) in
    let vars = when-some _ _ (sym c.test_vars.ensures.tested ∙ c.in_ok-vars.was) in
    header-by c.args.t.now dims.1 globals.1 vars.1

pub returns-then-not-size_holds : goal.returns-then-not-size_holds
unfolding tested
returns-then-not-size_holds c =
    let counts = holds c.counts_hold.ensures c.if-not-counts_hold.false in
    let dims = when-some _ _ (sym c.test_dims.ensures.tested ∙ c.in_ok-dims.was) in
    let globals = when-some _ _ (sym c.test_attrs.ensures.tested ∙ c.in_ok-globals.was) in
    let vars = when-some _ _ (sym c.test_vars.ensures.tested ∙ c.in_ok-vars.was) in
    let model = holds c.model_holds.ensures c.if-not-model_holds.false in
    let sizes = holds c.sizes_hold.ensures c.if-not-sizes_hold.false in
    none-when _ _ (sym (writable-by _ _ c.requires (sym (passed counts (passed dims.0 (passed globals.0 (passed vars.0 (passed model (sym sizes))))))) c.size_holds.ensures) ∙ c.if-not-size_holds.true)

pub returns : goal.returns
unfolding tested
returns c =
    let counts = holds c.counts_hold.ensures c.if-not-counts_hold.false in
    let dims = when-some _ _ (sym c.test_dims.ensures.tested ∙ c.in_ok-dims.was) in
    let globals = when-some _ _ (sym c.test_attrs.ensures.tested ∙ c.in_ok-globals.was) in
    let vars = when-some _ _ (sym c.test_vars.ensures.tested ∙ c.in_ok-vars.was) in
    let model = holds c.model_holds.ensures c.if-not-model_holds.false in
    let sizes = holds c.sizes_hold.ensures c.if-not-sizes_hold.false in
    some-when _ _ (sym (writable-by _ _ c.requires (sym (passed counts (passed dims.0 (passed globals.0 (passed vars.0 (passed model (sym sizes))))))) c.size_holds.ensures) ∙ c.if-not-size_holds.false) (header-by c.args.t.now dims.1 globals.1 vars.1)
