-- `put_rows` meets its contract: the lines put and those left are all the lines. Assumes nothing.
use borrow.Author.Rules.{rules}
use native.Mathlib.Omega.{arith}
use mathlib.Core.Path.{refl, ◌∙◌}
use Rattle.text.proofs.Putting.{from_size}
use Rattle.ggr_writing.proofs.Texts.{rowed_start, rowed_next, rowed_done}
use Rattle.ggr_writing.proofs.lines.put_rows.Goals as goal

pub loop-i-init : goal.loop-i-init
loop-i-init c = let a = c.args in (refl, rowed_start a.out.now a.at a.n a.positions.now a.channels.now (omega arith))

pub loop-i-preserved : goal.loop-i-preserved
loop-i-preserved c = let l = c.loop-i.invariant in (from_size c.put_segment-next.ensures ∙ l.0, rowed_next (search rules) c.stop-a.ensures c.stop-b.ensures l.1 c.put_segment-next.ensures (omega arith))

pub shape_of-out : goal.shape_of-out
shape_of-out c = c.loop-i.invariant.0

pub returns : goal.returns
returns c = rowed_done (search rules) c.loop-i.invariant.1
