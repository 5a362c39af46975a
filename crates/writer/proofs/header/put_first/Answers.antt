use borrow.Author.Rules.{rules}
use Rattle.writer.proofs.Laws.Put.{put-start}
use Rattle.writer.proofs.header.put_first.Goals as goal

pub returns : goal.returns
returns c = let e = put-start c.put_header.ensures.put in let s = c.put_header.ensures.same in search (rules, e)
