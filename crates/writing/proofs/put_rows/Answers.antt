-- `put_rows` meets its contract: the lines put and those left are all the lines. Assumes nothing.
use borrow.Author.Rules.{rules}
use native.Mathlib.Omega.{arith}
use mathlib.Core.Path.{refl, ◌∙◌}
use Rattle.text.proofs.Putting.{from_size}
use Rattle.writing.proofs.Texts.{rowed_start, rowed_next, rowed_done}
use Rattle.writing.proofs.put_rows.Goals as goal

pub loop-i-init : goal.loop-i-init
loop-i-init c = (refl, rowed_start c.args.out.now c.args.at c.args.n c.args.positions.now c.args.channels.now (omega arith))

pub loop-i-preserved : goal.loop-i-preserved
loop-i-preserved c = (from_size c.put_stop-next.ensures ∙ c.loop-i.invariant.0, rowed_next (search rules) c.stop.ensures c.loop-i.invariant.1 c.put_stop-next.ensures (omega arith))

pub returns : goal.returns
returns c = rowed_done (search rules) c.loop-i.invariant.1
