-- The tables of an accepted header hold what was read.
use mathlib.Core.Path.{refl, sym, ap, ◌∙◌}
use Rattle.header.specs.declared.reader.HeaderAnswer.{HeaderAnswer as Header}
use Rattle.cdf.proofs.Laws.Step.{got_same, into-got}
use Rattle.grammar.specs.Tree.{Tree}
use Rattle.grammar.specs.Tables.{laid}
use Rattle.grammar.specs.Meaning.{meaning, held, said}
use Rattle.grammar.proofs.Laws.Meaning.{laid-held}
use Rattle.grammar.proofs.Laws.Within.{read-within}
use Rattle.header.proofs.Laws.Accepted.{accepted-came}
use Rattle.demands.specs.Laid.{NothingLost}

pub nothing-lost : NothingLost
unfolding NothingLost held
nothing-lost s size a h e f z =
    let c = accepted-came s size a z in
    let back = laid-held c.tree (read-within a s size (into-got laid refl c.read)) in
    ap (λ (x : Header). said s x.tables) c.is
    ∙ ap (λ (x : Tree). meaning s x c.count) (back ∙ got_same (c.read ∙ sym f))
    ∙ ap (λ (x : Header). meaning s h x.tables.count) (sym c.is)
