use mathlib.Core.Path.{refl, sym, subst}
use Rattle.std.specs.Prelude.{Result, Ok}
use Rattle.cdf.specs.declared.refusal.Refusal.{Refusal}
use Rattle.cdf.specs.declared.refusal.Stop.{Stop}
use Rattle.header.proofs.Laws.Header.{passed}
use Rattle.convert.specs.Convert.{converted, convert, Converts}
use Rattle.convert.specs.Inner.Read.{as_read, stopped}
use Rattle.convert.specs.declared.convert.Converted.{Converted as Made}
use Rattle.convert.proofs.Laws.Convert.{header_refused, header_read}
use Rattle.convert.proofs.convert.convert.Goals as goal

pub returns-in_err-h : goal.returns-in_err-h
returns-in_err-h c =
    let a = c.args in
    subst (λ (r : Result Made Stop). Converts a.out.now (convert a.version a.prefix.now a.size a.out.now) r a.out.now) (sym (passed c.from_residual.result c.from_residual.ensures.1)) (header_refused a.version a.prefix.now a.size a.out.now _ c.in_err-h.ensures)

pub in_version-requires : goal.in_version-requires
in_version-requires c = record { size = c.args.size; is = c.in_ok-h.ensures; accepted = refl }

pub returns-in_err-in_version : goal.returns-in_err-in_version
returns-in_err-in_version c =
    let a = c.args in
    let told = subst (λ (r : Result Made Refusal). Converts a.out.now (converted a.version a.prefix.now (as_read c.in_ok-h.h) a.out.now) (stopped r) c.in_version.new.out) c.in_err-in_version.was c.in_version.ensures in
    header_read a.version a.prefix.now a.size a.out.now c.from_residual-in_err-in_version.result c.in_ok-h.ensures refl
    (subst (λ (r : Result Made Stop). Converts a.out.now (converted a.version a.prefix.now (as_read c.in_ok-h.h) a.out.now) r c.in_version.new.out) (sym (passed c.from_residual-in_err-in_version.result c.from_residual-in_err-in_version.ensures.1)) told)

pub returns : goal.returns
returns c =
    let a = c.args in
    let told = subst (λ (r : Result Made Refusal). Converts a.out.now (converted a.version a.prefix.now (as_read c.in_ok-h.h) a.out.now) (stopped r) c.in_version.new.out) c.in_ok-in_version.was c.in_version.ensures in
    header_read a.version a.prefix.now a.size a.out.now (Ok c.in_ok-in_version.field-0) c.in_ok-h.ensures refl told
