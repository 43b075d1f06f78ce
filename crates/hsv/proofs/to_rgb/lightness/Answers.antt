-- `to_rgb::lightness` meets its contract: by definition. Assumes nothing.
use mathlib.Core.Path.{refl}
use Rattle.hsv.specs.Back.{lightness_of}
use Rattle.hsv.proofs.to_rgb.lightness.Goals as goal

pub returns : goal.returns
unfolding lightness_of
returns c = refl
