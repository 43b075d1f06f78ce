-- `hued::turn` meets its contract: by the colouring, and what the calls ensure. Assumes nothing.
use Rattle.gradient.proofs.GimpLaws.{turned_down, turned_up}
use Rattle.gradient.proofs.hued.turn.Goals as goal

pub returns-then-colouring-eq-HSV_CLOCKWISE : goal.returns-then-colouring-eq-HSV_CLOCKWISE
returns-then-colouring-eq-HSV_CLOCKWISE c = let a = c.args in turned_down a.colouring a.p a.q a.f c.if-colouring-eq-HSV_CLOCKWISE.true c.clockwise.ensures

pub returns : goal.returns
returns c = let a = c.args in turned_up a.colouring a.p a.q a.f c.if-colouring-eq-HSV_CLOCKWISE.false c.counter_clockwise.ensures
