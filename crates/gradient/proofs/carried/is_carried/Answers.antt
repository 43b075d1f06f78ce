-- `carried::is_carried` meets its contract: the tests decide the definition's equations. Assumes nothing.
use Rattle.std.proofs.Common.{rules}
use Rattle.gradient.specs.Gimp.{carried}
use Rattle.gradient.proofs.carried.is_carried.Goals as goal

pub returns-then-colouring-gt-HSV_CLOCKWISE : goal.returns-then-colouring-gt-HSV_CLOCKWISE
unfolding carried
returns-then-colouring-gt-HSV_CLOCKWISE c = search rules

pub returns-then-asks_middle : goal.returns-then-asks_middle
unfolding carried
returns-then-asks_middle c = search rules

pub returns-in_default : goal.returns-in_default
unfolding carried
returns-in_default c = search rules

pub returns-in_default-2 : goal.returns-in_default-2
unfolding carried
returns-in_default-2 c = search rules

pub returns-in-0 : goal.returns-in-0
unfolding carried
returns-in-0 c = search rules

pub returns-in-0-2 : goal.returns-in-0-2
unfolding carried
returns-in-0-2 c = search rules
