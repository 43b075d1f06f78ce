-- `drawn_at` meets its contract: the pair of the place is drawn, and the colour is by it. Assumes nothing.
use Rattle.sampling.proofs.Along.{draws_is}
use Rattle.sampling.proofs.cells.drawn_at.Goals as goal

pub returns : goal.returns
returns c =
    let a = c.args in
    draws_is a.positions.now a.channels.now a.t a.place a.guess a.drawn.now c.pair_or-pair.ensures c.follow.ensures c.curve_of.ensures c.segment_colour-colour.ensures
