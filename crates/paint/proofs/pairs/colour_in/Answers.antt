-- `pairs::colour_in` meets its contract: by the place, whose pair lies among the stops. Assumes nothing.
use mathlib.Core.Path.{refl}
use Rattle.stops.specs.Pair.{colour_in}
use Rattle.stops.specs.declared.Place.TheVariants.{End, Nowhere, Between}
use Rattle.paint.proofs.Searching.{placed_colour, placed_inside}
use Rattle.paint.proofs.pairs.colour_in.Goals as goal

pub pair_at-requires : goal.pair_at-requires
pair_at-requires c = let p = placed_inside c.args.positions.now c.args.channels.now c.args.t c.requires c.in-Between.k c.in-Between.is in (p.0, p.1, c.requires.four)

pub returns-in-End : goal.returns-in-End
unfolding colour_in
returns-in-End c = placed_colour c.args.positions.now c.args.channels.now c.args.t c.requires c.args.kind (End c.in-End.i) c.in-End.is c.colour.ensures

pub returns-in-Nowhere : goal.returns-in-Nowhere
unfolding colour_in
returns-in-Nowhere c = placed_colour c.args.positions.now c.args.channels.now c.args.t c.requires c.args.kind Nowhere c.in-Nowhere.is refl

pub returns-in-Between : goal.returns-in-Between
unfolding colour_in
returns-in-Between c = placed_colour c.args.positions.now c.args.channels.now c.args.t c.requires c.args.kind (Between c.in-Between.k) c.in-Between.is c.pair_at.ensures
