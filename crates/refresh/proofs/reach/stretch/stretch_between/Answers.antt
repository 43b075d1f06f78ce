-- `stretch_between` meets its contract. Assumes nothing.
use lib.Ieee.{div, of_bits}
use Rattle.refresh.proofs.reach.Outer.{by_stops}
use Rattle.refresh.proofs.reach.stretch.stretch_between.Goals as goal

pub returns : goal.returns
unfolding div of_bits
returns c = by_stops _ _ _ c.item-low.ensures c.item-high.ensures
