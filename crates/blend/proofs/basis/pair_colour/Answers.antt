-- `basis::pair_colour` meets its contract: the spline at the share. Assumes nothing.
use mathlib.Core.Path.{◌∙◌, ap}
use lib.Ieee.{Float}
use Rattle.blend.specs.Basis.{basis}
use Rattle.blend.specs.Pair.{basis_pair}
use Rattle.blend.proofs.basis.pair_colour.Goals as goal

pub returns : goal.returns
unfolding basis_pair
returns c = c.spline.ensures ∙ ap (λ (x : Float). basis x c.args.left c.args.p.colour c.args.q.colour c.args.right) c.share.ensures
