-- `stops::find_place` meets its contract: test by test. Assumes nothing.
use mathlib.Core.Path.{sym, ◌∙◌}
use Rattle.stops.proofs.Placing.{at_first, at_last, at_nan, at_between}
use Rattle.stops.proofs.search.find_place.Goals as goal

pub returns-then-t-item : goal.returns-then-t-item
returns-then-t-item c = at_first c.args.positions.now c.args.t c.item.ensures c.if-t-item.true

pub returns-then-t-item-2 : goal.returns-then-t-item-2
returns-then-t-item-2 c = at_last c.args.positions.now c.args.t c.item.ensures c.less-last.ensures c.if-t-item.false c.item-2.ensures c.if-t-item-2.true

pub returns-then-is_nan : goal.returns-then-is_nan
returns-then-is_nan c = at_nan c.args.positions.now c.args.t c.item.ensures c.less-last.ensures c.if-t-item.false c.item-2.ensures c.if-t-item-2.false (sym c.is_nan.ensures.value ∙ c.if-is_nan.true)

pub returns : goal.returns
returns c = at_between c.args.positions.now c.args.t c.item.ensures c.less-last.ensures c.if-t-item.false c.item-2.ensures c.if-t-item-2.false (sym c.is_nan.ensures.value ∙ c.if-is_nan.false) c.narrowed.ensures
