-- `is_utf8` meets its contract: what is due after the bytes so far and those left is what is due at the end. Assumes nothing.
use borrow.Author.Rules.{rules}
use Rattle.text.proofs.Characters.{due_start, due_on, due_done}
use Rattle.text.proofs.utf8.is_utf8.Goals as goal

pub loop-b-init : goal.loop-b-init
loop-b-init c = due_start _ c.still-d.ensures

pub loop-b-preserved : goal.loop-b-preserved
loop-b-preserved c = due_on c.args.s.now c.loop-b.b-index c.loop-b.d c.loop-b.invariant (search rules) c.next-d.ensures

pub returns : goal.returns
returns c = due_done c.args.s.now c.loop-b.b-index c.loop-b.d c.loop-b.invariant (search rules)
