-- `stops::torn_colour` meets its contract: each channel is read, or lies past the end. Assumes nothing.
use native.Mathlib.Omega.{arith}
use lib.Ieee.{div, of_bits}
use Rattle.blend.proofs.Channels.{same_rgba}
use Rattle.stops.proofs.Reading.{past_end}
use Rattle.stops.proofs.channels.torn_colour.Goals as goal

pub returns-then-channels-i : goal.returns-then-channels-i
unfolding div of_bits
returns-then-channels-i c = let xs = c.args.channels.now in let h = c.if-channels-i.true in same_rgba (past_end xs _ (omega arith)) (past_end xs _ (omega arith)) (past_end xs _ (omega arith)) (past_end xs _ (omega arith))

pub returns : goal.returns
returns c = same_rgba c.item.ensures c.item-2.ensures c.item-3.ensures c.item-4.ensures
