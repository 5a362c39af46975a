use native.Mathlib.Omega.{arith}
use lib.ListN.{length}
use Rattle.rules.specs.Encode.{each}
use Rattle.writer.proofs.Laws.Rows.{put-list, length-list}
use Rattle.writer.proofs.rows.put_list.Goals as goal

pub start-requires : goal.start-requires
start-requires g c = let l = length-list c.args.tag (length c.args.items.now) (each (g.I.Item.bytes c.args.text.now c.args.t.now) c.args.items.now) in omega (arith, c.requires.room)

pub returns-clause-put : goal.returns-clause-put
returns-clause-put g c = put-list _ _ _ c.requires.room c.start.ensures.put c.put_each.ensures.put
