-- `hued::curve_hued` meets its contract: an end shown there and back, or the hue turned at the factor that the call ensures. Assumes nothing.
use Rattle.hsv.specs.Mix.{there_and_back}
use Rattle.gradient.specs.Gimp.{turned}
use Rattle.gradient.proofs.GimpLaws.{curve_right, curve_left, curve_at}
use Rattle.gradient.proofs.hued.curve_hued.Goals as goal

pub returns-then-pivot : goal.returns-then-pivot
returns-then-pivot c = let a = c.args in curve_right a.g a.pivot a.place there_and_back (turned a.g.colouring a.g.lcolor a.g.rcolor) c.if-pivot.true c.there_and_back.ensures

pub returns-then-pivot-2 : goal.returns-then-pivot-2
returns-then-pivot-2 c = let a = c.args in curve_left a.g a.pivot a.place there_and_back (turned a.g.colouring a.g.lcolor a.g.rcolor) c.if-pivot.false c.if-pivot-2.true c.there_and_back-then-pivot-2.ensures

pub returns : goal.returns
returns c =
    let a = c.args in
    curve_at a.g a.pivot a.place there_and_back (turned a.g.colouring a.g.lcolor a.g.rcolor) c.if-pivot.false c.if-pivot-2.false c.factor-f.ensures c.turn.ensures
