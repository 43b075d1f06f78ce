-- `linear::pair_colour` meets its contract: the mix at the share. Assumes nothing.
use mathlib.Core.Path.{◌∙◌, ap}
use lib.Ieee.{Float}
use Rattle.blend.specs.Blend.{linear}
use Rattle.blend.specs.Pair.{linear_pair}
use Rattle.blend.proofs.linear.pair_colour.Goals as goal

pub returns : goal.returns
unfolding linear_pair
returns c = c.interpolate_linear.ensures ∙ ap (λ (x : Float). linear c.args.p.colour c.args.q.colour x) c.share.ensures
