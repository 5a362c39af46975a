use native.Mathlib.Omega.{arith}
use borrow.Author.Rules.{rules}
use Prim.Native.Nat.{◌+◌, ◌≤◌, ◌<◌}
use mathlib.Core.Path.{◌≡◌, sym, subst}
use lib.ListN.{length}
use lib.Seq.{length-take-le}
use Rattle.grammar.specs.Tables.{no_dim, no_attr, no_var}
use Rattle.grammar.specs.declared.tables.Dim.{Dim}
use Rattle.writer.specs.Inner.Parts.{AttrIn, VarIn, dim_out, attr_out, var_out, dims_part, globals_part, vars_part}
use Rattle.writer.proofs.Laws.Put.{put_is}
use Rattle.writer.proofs.Laws.Rows.{in-front}
use Rattle.writer.proofs.Laws.Vars.{front-out, magic-room, word-room, dims-room, globals-room, vars-room, put_whole}
use Rattle.writer.proofs.header.put_header.Goals as goal

pub word-requires : goal.word-requires
word-requires c = magic-room c.args.text.now c.args.t.now _ c.requires.room

pub word-requires-2 : goal.word-requires-2
word-requires-2 c = let p = c.word.ensures.put in let r = word-room c.args.text.now c.args.t.now _ c.requires.room p.place in omega (arith, p.long)

pub put_list-requires-clause-there : goal.put_list-requires-clause-there
put_list-requires-clause-there c i x h e =
    let s = c.args.text.now in
    let t = c.args.t.now in
    let l : length t.dims ≡ 32 = search rules in
    let n = c.requires.there.ndims in
    let m = length-take-le t.ndims t.dims (omega arith) in
    let j : i < t.ndims = omega arith in
    subst (λ (d : Dim). d.name + d.chars ≤ length s) (sym (in-front t.dims t.ndims i no_dim x j (omega arith) e)) (c.requires.there.dims i j)

pub put_list-requires-clause-room : goal.put_list-requires-clause-room
put_list-requires-clause-room c =
    let s = c.args.text.now in
    let t = c.args.t.now in
    let p = c.word.ensures.put in
    let q = c.word-2.ensures.put in
    let r = dims-room s t _ c.requires.room p.place q.place in
    rw (front-out (dim_out s) 10 t.dims c.requires.there.ndims (search rules)) (let h : c.word-2.new.self.at + length (dims_part s t) ≤ length c.word-2.new.self.bytes.now = omega (arith, p.long, q.long) in h)

pub put_list-requires-2-clause-there : goal.put_list-requires-2-clause-there
put_list-requires-2-clause-there c i x h e =
    let s = c.args.text.now in
    let t = c.args.t.now in
    let l : length t.attrs ≡ 128 = search rules in
    let n = c.requires.there.nglobals in
    let m = length-take-le t.globals t.attrs (omega arith) in
    let j : i < t.globals = omega arith in
    subst (AttrIn s) (sym (in-front t.attrs t.globals i no_attr x j (omega arith) e)) (c.requires.there.globals i j)

pub put_list-requires-2-clause-room : goal.put_list-requires-2-clause-room
put_list-requires-2-clause-room c =
    let s = c.args.text.now in
    let t = c.args.t.now in
    let p = c.word.ensures.put in
    let q = c.word-2.ensures.put in
    let a0 = put_is c.put_list.ensures.put (front-out (dim_out s) 10 t.dims c.requires.there.ndims (search rules)) in
    let r = globals-room s t _ c.requires.room p.place q.place a0.place in
    rw (front-out (attr_out s) 12 t.attrs c.requires.there.nglobals (search rules)) (let h : c.put_list.new.out.at + length (globals_part s t) ≤ length c.put_list.new.out.bytes.now = omega (arith, p.long, q.long, a0.long) in h)

pub put_list-requires-3-clause-there : goal.put_list-requires-3-clause-there
put_list-requires-3-clause-there c i x h e =
    let s = c.args.text.now in
    let t = c.args.t.now in
    let l : length t.vars ≡ 64 = search rules in
    let n = c.requires.there.nvars in
    let m = length-take-le t.nvars t.vars (omega arith) in
    let j : i < t.nvars = omega arith in
    subst (VarIn s t.attrs) (sym (in-front t.vars t.nvars i no_var x j (omega arith) e)) (c.requires.there.vars i j)

pub put_list-requires-3-clause-room : goal.put_list-requires-3-clause-room
put_list-requires-3-clause-room c =
    let s = c.args.text.now in
    let t = c.args.t.now in
    let p = c.word.ensures.put in
    let q = c.word-2.ensures.put in
    let a0 = put_is c.put_list.ensures.put (front-out (dim_out s) 10 t.dims c.requires.there.ndims (search rules)) in
    let a1 = put_is c.put_list-2.ensures.put (front-out (attr_out s) 12 t.attrs c.requires.there.nglobals (search rules)) in
    let r = vars-room s t _ c.requires.room p.place q.place a0.place a1.place in
    rw (front-out (var_out s t.version t.attrs) 11 t.vars c.requires.there.nvars (search rules)) (let h : c.put_list-2.new.out.at + length (vars_part s t) ≤ length c.put_list-2.new.out.bytes.now = omega (arith, p.long, q.long, a0.long, a1.long) in h)

pub returns-clause-put : goal.returns-clause-put
returns-clause-put c =
    let s = c.args.text.now in
    let t = c.args.t.now in
    let p = c.word.ensures.put in
    let q = c.word-2.ensures.put in
    let a0 = put_is c.put_list.ensures.put (front-out (dim_out s) 10 t.dims c.requires.there.ndims (search rules)) in
    let a1 = put_is c.put_list-2.ensures.put (front-out (attr_out s) 12 t.attrs c.requires.there.nglobals (search rules)) in
    let a2 = put_is c.put_list-3.ensures.put (front-out (var_out s t.version t.attrs) 11 t.vars c.requires.there.nvars (search rules)) in
    put_whole s t (search rules) c.requires.room p q a0 a1 a2
