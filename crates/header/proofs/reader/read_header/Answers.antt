use mathlib.Core.Path.{ap, ◌∙◌}
use Rattle.grammar.proofs.Laws.Within.{read-within}
use Rattle.header.specs.Header.{header_of}
use Rattle.header.proofs.Laws.Header.{passed, read-longer, read-larger, read-stops, rule-stops, read-judged}
use Rattle.header.proofs.reader.read_header.Goals as goal

pub returns-then-size-prefix : goal.returns-then-size-prefix
returns-then-size-prefix c = read-longer _ _ _ c.into.ensures c.if-size-prefix.true

pub returns-then-size-gt-MAX_POSITION : goal.returns-then-size-gt-MAX_POSITION
returns-then-size-gt-MAX_POSITION c = read-larger _ _ _ c.into-then-size-gt-MAX_POSITION.ensures c.if-size-gt-MAX_POSITION.true

pub returns-in_err-tables : goal.returns-in_err-tables
returns-in_err-tables c = ap header_of (passed c.from_residual.result c.from_residual.ensures.1) ∙ read-stops _ _ _ c.if-size-prefix.false c.if-size-gt-MAX_POSITION.false c.in_err-tables.ensures

pub judged-requires : goal.judged-requires
judged-requires c = read-within _ _ _ c.in_ok-tables.ensures

pub returns-in_err-tables-2 : goal.returns-in_err-tables-2
returns-in_err-tables-2 c =
    let r = c.from_residual-in_err-tables-2 in
    ap header_of (passed r.result r.ensures.1) ∙ rule-stops _ _ _ c.if-size-prefix.false c.if-size-gt-MAX_POSITION.false c.in_ok-tables.ensures (c.in_err-tables-2.ensures _)

pub returns : goal.returns
returns c = read-judged _ _ _ c.if-size-prefix.false c.if-size-gt-MAX_POSITION.false c.in_ok-tables.ensures (c.in_ok-tables-2.ensures _)
