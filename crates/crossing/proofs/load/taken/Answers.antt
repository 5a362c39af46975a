use mathlib.Core.Path.{refl}
use borrow.Author.Rules.{rules}
use Rattle.crossing.specs.Words.{dim_in_fields, attr_in_fields, var_in_fields, dim_of, attr_of, var_of}
use Rattle.crossing.specs.Inner.Rows.{dim-inner, attr-inner, var-inner}
use Rattle.crossing.proofs.Laws.Fits.{too_wide, narrow}
use Rattle.crossing.proofs.Laws.Loads.{few_words, wide-version, wide-dims, wide-attrs, wide-vars, tables-taken, list-out, list-in}
use Rattle.crossing.proofs.load.taken.Goals as goal

pub returns-then-words-lt-WORDS : goal.returns-then-words-lt-WORDS
returns-then-words-lt-WORDS c = few_words _ c.if-words-lt-WORDS.true

pub returns-in_err-t : goal.returns-in_err-t
returns-in_err-t c = wide-version _ c.from_residual.ensures c.if-words-lt-WORDS.false (too_wide _ _ _ c.try_from.ensures c.ok.ensures.value c.in_err-t.was)

pub returns-in_err-load_rows : goal.returns-in_err-load_rows
returns-in_err-load_rows c =
    let n = (narrow _ _ _ c.try_from.ensures c.ok.ensures.value c.in_ok-t.was) in
    wide-dims _ c.from_residual-in_err-load_rows.ensures c.if-words-lt-WORDS.false n.0 (list-out dim_in_fields dim_of 3 dim-inner c.args.words.now 8 32 refl (search rules) c.in_err-load_rows.ensures)

pub returns-in_err-load_rows-2 : goal.returns-in_err-load_rows-2
returns-in_err-load_rows-2 c =
    let n = (narrow _ _ _ c.try_from.ensures c.ok.ensures.value c.in_ok-t.was) in
    let d = (list-in dim_in_fields dim_of 3 dim-inner c.args.words.now 8 32 refl (search rules) c.in_ok-load_rows.ensures) in
    wide-attrs _ c.from_residual-in_err-load_rows-2.ensures c.if-words-lt-WORDS.false n.0 d.0 (list-out attr_in_fields attr_of 5 attr-inner c.args.words.now 104 128 refl (search rules) c.in_err-load_rows-2.ensures)

pub returns-in_err-load_rows-3 : goal.returns-in_err-load_rows-3
returns-in_err-load_rows-3 c =
    let n = (narrow _ _ _ c.try_from.ensures c.ok.ensures.value c.in_ok-t.was) in
    let d = (list-in dim_in_fields dim_of 3 dim-inner c.args.words.now 8 32 refl (search rules) c.in_ok-load_rows.ensures) in
    let a = (list-in attr_in_fields attr_of 5 attr-inner c.args.words.now 104 128 refl (search rules) c.in_ok-load_rows-2.ensures) in
    wide-vars _ c.from_residual-in_err-load_rows-3.ensures c.if-words-lt-WORDS.false n.0 d.0 a.0 (list-out var_in_fields var_of 16 var-inner c.args.words.now 744 64 refl (search rules) c.in_err-load_rows-3.ensures)

pub returns : goal.returns
returns c =
    let n = (narrow _ _ _ c.try_from.ensures c.ok.ensures.value c.in_ok-t.was) in
    let d = (list-in dim_in_fields dim_of 3 dim-inner c.args.words.now 8 32 refl (search rules) c.in_ok-load_rows.ensures) in
    let a = (list-in attr_in_fields attr_of 5 attr-inner c.args.words.now 104 128 refl (search rules) c.in_ok-load_rows-2.ensures) in
    let v = (list-in var_in_fields var_of 16 var-inner c.args.words.now 744 64 refl (search rules) c.in_ok-load_rows-3.ensures) in
    tables-taken c.args.words.now c.if-words-lt-WORDS.false n d a v
