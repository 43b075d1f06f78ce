-- `stops::colour_in` meets its contract: by the place. Assumes nothing.
use mathlib.Core.Path.{refl}
use Rattle.stops.specs.Pair.{colour_in}
use Rattle.stops.specs.declared.Place.TheVariants.{End, Nowhere, Between}
use Rattle.stops.proofs.Pairs.{by_place}
use Rattle.stops.proofs.between.colour_in.Goals as goal

pub returns-in-End : goal.returns-in-End
unfolding colour_in
returns-in-End c = by_place c.args.kind c.args.positions.now c.args.channels.now c.args.t (End c.in-End.i) c.in-End.is c.colour.ensures

pub returns-in-Nowhere : goal.returns-in-Nowhere
unfolding colour_in
returns-in-Nowhere c = by_place c.args.kind c.args.positions.now c.args.channels.now c.args.t Nowhere c.in-Nowhere.is refl

pub returns-in-Between : goal.returns-in-Between
unfolding colour_in
returns-in-Between c = by_place c.args.kind c.args.positions.now c.args.channels.now c.args.t (Between c.in-Between.k) c.in-Between.is c.between_at.ensures
