-- `to_rgb::angle` meets its contract: each branch of the code is a branch of the definition. Assumes nothing.
use mathlib.Core.Path.{◌≡◌, sym, ap, ◌∙◌}
use lib.Ieee.{Float, binary32, rem}
use Rattle.float.specs.Number.{count_of}
use Rattle.hsv.specs.Back.{angle_of}
use Rattle.hsv.specs.Circle.{turn}
use Rattle.hsv.proofs.Remainders.{turn_is}
use Rattle.hsv.proofs.to_rgb.angle.Goals as goal

-- what the call gives
rest_is : (h rest : Float) → rest ≡ rem binary32 h (count_of 360) → rem binary32 h turn ≡ rest
rest_is h rest e = sym (e ∙ ap (rem binary32 h) turn_is)

pub returns-then-rest : goal.returns-then-rest
unfolding angle_of
returns-then-rest c = simp (rest_is c.args.h c.remainder-rest.result c.remainder-rest.ensures, c.if-rest.true)

pub returns : goal.returns
unfolding angle_of
returns c = simp (rest_is c.args.h c.remainder-rest.result c.remainder-rest.ensures, c.if-rest.false)
