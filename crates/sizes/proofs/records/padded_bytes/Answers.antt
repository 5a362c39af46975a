use Prim.Native.Nat.{◌*◌}
use Rattle.sizes.proofs.Laws.Records.{capped-self, capped-most, padded-by}
use Rattle.items.specs.Types.{size_of}
use mathlib.Core.Path.{ap, ◌∙◌}
use native.Mathlib.Omega.{arith}
use Rattle.sizes.proofs.records.padded_bytes.Goals as goal

pub overflow_add-result : goal.overflow_add-result
overflow_add-result c =
    let len = c.args.len in
    let e = c.times-bytes.ensures len (capped-self len c.requires.0) in
    omega (arith, e, capped-most (len * c.size_of.result), c.compute_padding_size.ensures)

pub returns : goal.returns
returns c = λ x e. padded-by _ x c.size_of.result _ (c.times-bytes.ensures x e) c.compute_padding_size.ensures (c.size_of.ensures ∙ ap size_of c.of_code-kind.ensures)
