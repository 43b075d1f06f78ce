-- `pairs::find_place` meets its contract: the pair that was tried, then test by test. Assumes nothing.
use Rattle.paint.proofs.Searching.{tried, at_first, at_last, at_nan, at_between, sought}
use Rattle.paint.proofs.pairs.find_place.Goals as goal

pub returns-then-is_between : goal.returns-then-is_between
returns-then-is_between c = tried c.args.positions.now c.args.t c.args.k c.args.span c.requires.rising c.requires.span c.is_between.ensures c.if-is_between.true

pub returns-then-t-positions : goal.returns-then-t-positions
returns-then-t-positions c = at_first c.args.positions.now c.args.t c.if-t-positions.true

pub returns-then-t-positions-2 : goal.returns-then-t-positions-2
returns-then-t-positions-2 c = at_last c.args.positions.now c.args.t c.if-t-positions.false c.if-t-positions-2.true

pub returns-then-t : goal.returns-then-t
returns-then-t c = at_nan c.args.positions.now c.args.t c.if-t-positions.false c.if-t-positions-2.false c.if-t.true

pub search-requires : goal.search-requires
search-requires c = sought c.args.positions.now c.args.t c.if-t-positions.false c.if-t-positions-2.false c.args.span c.requires.rising c.requires.span c.if-t.false

pub returns : goal.returns
returns c = at_between c.args.positions.now c.args.t c.if-t-positions.false c.if-t-positions-2.false c.if-t.false c.search.ensures
