-- `smoothstep::pair_colour` meets its contract: the mix at the share. Assumes nothing.
use mathlib.Core.Path.{◌∙◌, ap}
use lib.Ieee.{Float}
use Rattle.blend.specs.Blend.{smooth}
use Rattle.blend.specs.Pair.{smooth_pair}
use Rattle.blend.proofs.smoothstep.pair_colour.Goals as goal

pub returns : goal.returns
unfolding smooth_pair
returns c = c.interpolate_smoothstep.ensures ∙ ap (λ (x : Float). smooth c.args.p.colour c.args.q.colour x) c.share.ensures
