-- `remainder::doubled` meets its contract: each turn doubles once more. Assumes nothing.
use Rattle.hsv.proofs.Remainders.{doubled_more}
use Rattle.hsv.proofs.remainder.doubled.Goals as goal

pub loop-i-preserved : goal.loop-i-preserved
loop-i-preserved c = doubled_more c.args.r c.loop-i._i c.args.y c.loop-i.left c.loop-i.invariant
