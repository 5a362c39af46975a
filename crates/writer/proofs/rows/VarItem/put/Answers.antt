use native.Mathlib.Omega.{arith}
use borrow.Author.Rules.{rules}
use Prim.Native.Nat.{◌+◌, ◌-◌, ◌≤◌, ◌<◌}
use mathlib.Core.Path.{◌≡◌}
use mathlib.Core.Path.{sym, subst}
use lib.ListN.{length, drop, length-drop}
use lib.Seq.{length-take-le}
use Rattle.grammar.specs.Tables.{no_attr}
use Rattle.writer.specs.Inner.Parts.{AttrIn, attrs_out}
use Rattle.writer.proofs.Laws.Put.{put_is, slice-part}
use Rattle.writer.proofs.Laws.Rows.{in-span}
use Rattle.writer.proofs.Laws.Vars.{shape-room, attrs-room, tail-room, put-var, span-out}
use Rattle.writer.proofs.rows.VarItem.put.Goals as goal

pub put_shape-requires-clause-room : goal.put_shape-requires-clause-room
put_shape-requires-clause-room c = shape-room c.args.text.now c.args.t.now.version c.args.t.now.attrs c.args.self.now _ c.requires.room

pub put_list-requires-clause-there : goal.put_list-requires-clause-there
put_list-requires-clause-there c i x h e =
    let v = c.args.self.now in
    let xs = c.args.t.now.attrs in
    let r = c.requires.there in
    let k = slice-part v.first v.attrs in
    let l : length xs ≡ 128 = search rules in
    let span = r.span in
    let d = length-drop v.first xs in
    let n = length-take-le (v.first + v.attrs - v.first) (drop v.first xs) (omega arith) in
    let j : i < v.attrs = omega arith in
    subst (AttrIn c.args.text.now) (sym (in-span xs v.first _ i no_attr x (omega arith) (omega arith) e)) (r.rows i j)

pub put_list-requires-clause-room : goal.put_list-requires-clause-room
put_list-requires-clause-room c =
    let v = c.args.self.now in
    let xs = c.args.t.now.attrs in
    let l : length xs ≡ 128 = search rules in
    let p = c.put_shape.ensures.put in
    let span = c.requires.there.span in
    let a = attrs-room c.args.text.now c.args.t.now.version xs v _ c.requires.room p.place in
    rw (span-out c.args.text.now xs v.first v.attrs _ (slice-part v.first v.attrs) (omega arith)) (let r : c.put_shape.new.out.at + length (attrs_out c.args.text.now xs v.first v.attrs) ≤ length c.put_shape.new.out.bytes.now = omega (arith, p.long) in r)

pub put_tail-requires : goal.put_tail-requires
put_tail-requires c =
    let v = c.args.self.now in
    let xs = c.args.t.now.attrs in
    let l : length xs ≡ 128 = search rules in
    let span = c.requires.there.span in
    let p = c.put_shape.ensures.put in
    let q = put_is c.put_list.ensures.put (span-out c.args.text.now xs v.first v.attrs _ (slice-part v.first v.attrs) (omega arith)) in
    let a = tail-room c.args.text.now c.args.t.now.version xs v _ c.requires.room p.place q.place in
    omega (arith, p.long, q.long)

pub returns-clause-put : goal.returns-clause-put
returns-clause-put c =
    let v = c.args.self.now in
    let xs = c.args.t.now.attrs in
    let l : length xs ≡ 128 = search rules in
    let span = c.requires.there.span in
    let q = put_is c.put_list.ensures.put (span-out c.args.text.now xs v.first v.attrs _ (slice-part v.first v.attrs) (omega arith)) in
    put-var c.args.text.now c.args.t.now.version xs v c.requires.room c.put_shape.ensures.put q c.put_tail.ensures.put
