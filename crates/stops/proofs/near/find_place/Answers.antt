-- `near::find_place` meets its contract: the pair that was tried, or the search. Assumes nothing.
use mathlib.Core.Path.{sym, ◌∙◌}
use Rattle.stops.proofs.Nearby.{near_pair, near_else}
use Rattle.stops.proofs.near.find_place.Goals as goal

pub returns-then-is_between : goal.returns-then-is_between
returns-then-is_between c = near_pair c.args.positions.now c.args.t c.args.k (sym c.is_between.ensures ∙ c.if-is_between.true)

pub returns-else-is_between : goal.returns-else-is_between
returns-else-is_between c = near_else c.args.positions.now c.args.t c.args.k (sym c.is_between.ensures ∙ c.if-is_between.false) c.find_place.ensures
