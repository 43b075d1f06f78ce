-- `shade` meets its contract: the one rule, by the blending. Assumes nothing.
use mathlib.Core.Path.{refl}
use lib.Ieee.{le}
use Rattle.gradient.proofs.GimpLaws.{by_wave, by_rest}
use Rattle.paint.proofs.gimp.Ends.{end_there, by_step}
use Rattle.paint.proofs.gimp.shade.Goals as goal

pub colour-requires : goal.colour-requires
colour-requires c = end_there c.args.g c.requires.1 (le c.args.pivot c.args.place)

pub returns-then-g-eq-STEP : goal.returns-then-g-eq-STEP
returns-then-g-eq-STEP c = by_step c.args.g c.args.pivot c.args.place c.requires.0 c.requires.1 c.if-g-eq-STEP.true c.colour.ensures

pub returns-then-g-eq-SINUSOIDAL : goal.returns-then-g-eq-SINUSOIDAL
returns-then-g-eq-SINUSOIDAL c = by_wave _ _ _ refl c.requires.0 c.if-g-eq-SINUSOIDAL.true c.blend_wave.ensures

pub returns-else-g-eq-SINUSOIDAL : goal.returns-else-g-eq-SINUSOIDAL
returns-else-g-eq-SINUSOIDAL c = by_rest _ _ _ refl c.requires.0 c.if-g-eq-SINUSOIDAL.false c.blend.ensures
