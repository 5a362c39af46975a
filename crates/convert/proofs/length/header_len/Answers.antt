use native.Mathlib.Omega.{arith}
use borrow.Author.Rules.{rules}
use Prim.Native.Nat.{◌+◌, ◌≤◌, ◌<◌}
use mathlib.Core.Path.{◌≡◌, sym, subst}
use lib.ListN.{length}
use lib.Seq.{get_or-take, length-take-le}
use Rattle.grammar.specs.Tables.{no_var}
use Rattle.grammar.specs.declared.tables.Var.{Var}
use Rattle.convert.proofs.Laws.Length.{header-cut}
use Rattle.convert.proofs.length.header_len.Goals as goal

pub vars_len-vars-requires-clause-spans : goal.vars_len-vars-requires-clause-spans
vars_len-vars-requires-clause-spans c i h =
    let t = c.args.t.now in
    let l : length t.vars ≡ 64 = search rules in
    let a : length t.attrs ≡ 128 = search rules in
    let f = c.requires.vars in
    let n = c.requires.attrs in
    let m = length-take-le t.nvars t.vars (omega arith) in
    let j : i < t.nvars = omega arith in
    let s = c.requires.spans i j in
    subst (λ (v : Var). v.first + v.attrs ≤ length t.attrs) (sym (get_or-take t.nvars t.vars i no_var j)) (omega arith)

pub returns : goal.returns
returns c =
    let t = c.args.t.now in
    let l : length t.vars ≡ 64 = search rules in
    let a : length t.attrs ≡ 128 = search rules in
    let d : length t.dims ≡ 32 = search rules in
    let x = c.requires.dims in
    let y = c.requires.globals in
    let z = c.requires.attrs in
    let w = c.requires.vars in (
      header-cut c.args.version t (omega arith) (omega arith) (omega arith) c.dims_len-dims.ensures.0 c.attrs_len-globals.ensures.0 c.vars_len-vars.ensures.0,
      omega (arith, c.dims_len-dims.ensures.1, c.attrs_len-globals.ensures.1, c.vars_len-vars.ensures.1),
    )
