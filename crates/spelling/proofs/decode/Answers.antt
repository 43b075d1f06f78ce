-- `decode` meets its contract: what is left, put after what is there, makes the whole. Assumes nothing.
use borrow.Author.Rules.{rules}
use lib.ListN.{get_or}
use Rattle.spelling.specs.Spelling.{meant_by}
use Rattle.spelling.proofs.Puts.{putting_none, putting_more, putting_all, meant_one, meant_none}
use Rattle.spelling.proofs.decode.Goals as goal

pub loop-b-init : goal.loop-b-init
loop-b-init c = let a = c.args in putting_none _ a.buf.now 0 a.s.now

pub loop-b-preserved : goal.loop-b-preserved
loop-b-preserved c = let s = c.args.s.now in
    putting_more c.loop-b.invariant (meant_by (get_or s c.loop-b.b-index 0)) (meant_one s c.loop-b.b-index (search rules)) c.put_plain-n.ensures.0 c.put_plain-n.ensures.1

pub returns : goal.returns
returns c = putting_all c.loop-b.invariant meant_none (search rules)
