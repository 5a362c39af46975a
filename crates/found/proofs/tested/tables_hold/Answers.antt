use mathlib.Core.Path.{sym, ap, ◌∙◌}
use Rattle.sizes.proofs.Laws.When.{when-some, when-none, some-when, none-when}
use Rattle.sizes.specs.declared.records.Sizes.{Sizes}
use Rattle.sizes.proofs.Laws.Count.{ends_by}
use Rattle.found.proofs.Laws.Sought.{shaped, tables-shape, tables-ids, tables-sizes, tables-ends}
use Rattle.found.proofs.tested.tables_hold.Goals as goal

pub returns-then-not-shape_holds : goal.returns-then-not-shape_holds
returns-then-not-shape_holds c = none-when _ _ (sym (tables-shape _ (sym c.shape_holds.ensures ∙ c.if-not-shape_holds.true)))

pub ids_hold-requires : goal.ids_hold-requires
ids_hold-requires c = shaped _ (sym c.shape_holds.ensures ∙ c.if-not-shape_holds.false)

pub returns-then-not-ids_hold : goal.returns-then-not-ids_hold
returns-then-not-ids_hold c = none-when _ _ (sym (tables-ids _ (sym c.shape_holds.ensures ∙ c.if-not-shape_holds.false) (sym c.ids_hold.ensures ∙ c.if-not-ids_hold.true)))

pub returns-in_err-z : goal.returns-in_err-z
returns-in_err-z c =
    c.from_residual.ensures
    ∙ none-when _ _ (sym (tables-sizes _ (sym c.shape_holds.ensures ∙ c.if-not-shape_holds.false) (sym c.ids_hold.ensures ∙ c.if-not-ids_hold.false) (when-none _ _ (sym c.measure.ensures ∙ c.in_err-z.was))))

pub measure-requires : goal.measure-requires
measure-requires c = shaped _ (sym c.shape_holds.ensures ∙ c.if-not-shape_holds.false)

pub returns-then-not-ends_hold : goal.returns-then-not-ends_hold
returns-then-not-ends_hold c =
    let shape = sym c.shape_holds.ensures ∙ c.if-not-shape_holds.false in
    let ids = sym c.ids_hold.ensures ∙ c.if-not-ids_hold.false in
    let z = when-some _ _ (sym c.measure.ensures ∙ c.in_ok-z.was) in
    none-when _ _ (sym (tables-ends _ shape ids z.0) ∙ sym (ends_by _ _ z.0 z.1 c.ends_hold.ensures) ∙ c.if-not-ends_hold.true)

pub returns : goal.returns
returns c =
    let shape = sym c.shape_holds.ensures ∙ c.if-not-shape_holds.false in
    let ids = sym c.ids_hold.ensures ∙ c.if-not-ids_hold.false in
    let z = when-some _ _ (sym c.measure.ensures ∙ c.in_ok-z.was) in
    some-when _ _ (sym (tables-ends _ shape ids z.0) ∙ sym (ends_by _ _ z.0 z.1 c.ends_hold.ensures) ∙ c.if-not-ends_hold.false) (ap (λ (z : Sizes). z.step) z.1)
