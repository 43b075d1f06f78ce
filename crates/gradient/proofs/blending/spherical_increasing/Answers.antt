-- `blending::spherical_increasing` meets its contract: by what the root ensures. Assumes nothing.
use Rattle.gradient.specs.Gimp.{increasing}
use Rattle.gradient.proofs.blending.spherical_increasing.Goals as goal

pub returns : goal.returns
unfolding increasing
returns c = c.root.ensures
