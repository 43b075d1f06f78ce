-- `refill` meets its contract: the block in hand has the colour, or the one filled begins with it. Assumes nothing.
use native.Mathlib.Omega.{arith}
use Rattle.within.proofs.block.refill.Goals as goal

pub returns-then-holds : goal.returns-then-holds
returns-then-holds c =
    let h = c.holds.ensures c.if-holds.true in
    record { from = h.0; to = h.1; hand = c.requires.colours_in_hand }

pub fill-requires : goal.fill-requires
fill-requires c =
    record { codes_value = (c.requires.codes_value.0, (omega (arith, c.requires.codes_value.1), c.requires.codes_value.1.1)); block_len = c.requires.colours_in_hand.long }
