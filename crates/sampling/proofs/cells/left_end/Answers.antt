-- `left_end` meets its contract: the point in hand, or one evaluated. Assumes nothing.
use Rattle.sampling.proofs.cells.left_end.Goals as goal

pub returns-then-carried : goal.returns-then-carried
returns-then-carried c =
    (c.requires.reaches.carries.start c.if-carried.true, c.requires.reaches.drawn)

pub end_at-requires : goal.end_at-requires
end_at-requires c =
    record { i_le_cells = (c.requires.i_le_cells, c.requires.reaches.fine); carrying = c.requires.reaches.drawn }

pub returns : goal.returns
returns c = c.end_at.ensures
