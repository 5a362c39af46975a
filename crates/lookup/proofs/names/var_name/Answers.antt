use Rattle.std.proofs.Common.{◌≤◌, ◌+◌, ap, length, arith}
use Rattle.model.specs.declared.names.Span.{Span}
use Rattle.lookup.proofs.Laws.Lookup.{name_in, name-says}
use Rattle.lookup.proofs.names.var_name.Goals as goal

pub overflow_add-end : goal.overflow_add-end
overflow_add-end c =
    let a = c.args in
    let p = name-says _ _ _ c.in-Ok.ensures in
    let l = name_in a.s.now a.t.now p.0 a.i p.1 in
    omega (arith, ap (λ (x : Span). x.at) p.2, ap (λ (x : Span). x.chars) p.2)

pub slice_bounds-result-end-2 : goal.slice_bounds-result-end-2
slice_bounds-result-end-2 c =
    let a = c.args in
    let p = name-says _ _ _ c.in-Ok.ensures in
    let l = name_in a.s.now a.t.now p.0 a.i p.1 in
    let h : c.in-Ok.name.at + c.in-Ok.name.chars ≤ length a.s.now = omega (arith, ap (λ (x : Span). x.at) p.2, ap (λ (x : Span). x.chars) p.2) in
    h
