-- `points_to` meets its contract: any point is so many on, or there is none. Assumes nothing.
use Rattle.within.proofs.Questions.{points_past, points_all}
use Rattle.within.proofs.lent.points_to.Goals as goal

pub returns-then-r-at : goal.returns-then-r-at
returns-then-r-at c = points_all _ _ _ _ _ c.if-at.false c.if-r-at.true

pub returns-else-r-at : goal.returns-else-r-at
returns-else-r-at c = points_past _ _ _ _ _ c.if-at.false c.if-r-at.false
