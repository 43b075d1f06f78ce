-- `segments::chords_after` meets its contract: what the calls ensure, put together. Assumes nothing.
use Rattle.stops.proofs.Chording.{chords_right}
use Rattle.stops.proofs.segments.chords_after.Goals as goal

pub returns : goal.returns
returns c =
    chords_right _ _ _ c.less.ensures c.colour-p.ensures c.colour-q.ensures c.right_of.ensures c.chords.ensures
