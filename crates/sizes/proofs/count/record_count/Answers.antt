use Rattle.std.proofs.Common.{ap, ◌∙◌}
use Rattle.sizes.specs.Inner.Sizes.{divided}
use Rattle.sizes.specs.Count.{first_begin}
use Rattle.sizes.specs.Records.{record_size}
use Rattle.sizes.specs.declared.records.Sizes.{Sizes}
use Rattle.sizes.proofs.Laws.Count.{count-is}
use Rattle.sizes.proofs.count.record_count.Goals as goal

pub returns-in-Some : goal.returns-in-Some
returns-in-Some c = let t = c.args.t.tables.now in c.in-Some.ensures.0 (divided t.size (first_begin t) (record_size t)) ∙ count-is t

pub returns-in-None : goal.returns-in-None
returns-in-None c =
    let t = c.args.t.tables.now in
    c.divided.ensures
    ∙ ap (λ (z : Sizes). divided t.size z.first z.step) c.requires
    ∙ c.in-None.ensures.0 (divided t.size (first_begin t) (record_size t))
    ∙ count-is t
