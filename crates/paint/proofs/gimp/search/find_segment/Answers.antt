-- `find_segment` meets its contract: a guess that t lies inside, or the search. Assumes nothing.
use Rattle.paint.proofs.gimp.Hits.{hit}
use Rattle.paint.proofs.gimp.search.find_segment.Goals as goal

pub returns-then-is_inside : goal.returns-then-is_inside
returns-then-is_inside c =
    hit c.args.positions.now c.args.t (c.requires.1 c.if-orderly.true) c.guess-g.result c.guess-g.ensures c.is_inside.ensures c.if-is_inside.true
