use Rattle.std.proofs.Common.{arith}
use Rattle.std.proofs.lemmas.Grind.{common_steps}
use Rattle.hexlines.proofs.Laws.Line.{kind-long, kind-odd, kind-no-digits, kind-file}
use Rattle.hexlines.proofs.line.line_answer.Goals as goal

pub returns-clause-means : goal.returns-clause-means
returns-clause-means g c =
    let t = c.args.text.now in
    let yes = kind-file t c.decode.new.file.items (omega arith) (omega arith) in
    grind (arith, common_steps, yes)

pub returns-then-text-gt-MAX_LINE-clause-means : goal.returns-then-text-gt-MAX_LINE-clause-means
returns-then-text-gt-MAX_LINE-clause-means g c = kind-long c.args.text.now c.if-text-gt-MAX_LINE.true

pub returns-then-text-ne0-clause-means : goal.returns-then-text-ne0-clause-means
returns-then-text-ne0-clause-means g c = kind-odd c.args.text.now (omega arith) (λ e. absurd (omega arith))

pub returns-then-is_none-clause-means : goal.returns-then-is_none-clause-means
returns-then-is_none-clause-means g c =
    let t = c.args.text.now in
    let no = kind-no-digits t (omega arith) (omega arith) in
    grind (arith, common_steps, no)
