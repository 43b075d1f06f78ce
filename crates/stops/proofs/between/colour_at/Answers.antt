-- `stops::colour_at` meets its contract: the colour at the place of t. Assumes nothing.
use mathlib.Core.Path.{◌∙◌, ap}
use Rattle.stops.specs.Pair.{colour_in}
use Rattle.stops.proofs.between.colour_at.Goals as goal

pub returns : goal.returns
returns c = c.colour_in.ensures ∙ ap (colour_in c.args.kind c.args.positions.now c.args.channels.now c.args.t) c.find_place.ensures
