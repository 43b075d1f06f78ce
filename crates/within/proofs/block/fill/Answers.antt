-- `fill` meets its contract: as many colours as there is room for. Assumes nothing.
use native.Mathlib.Omega.{arith}
use Rattle.within.proofs.block.fill.Goals as goal

pub fill_each-requires : goal.fill_each-requires
fill_each-requires c =
    record { codes_value = (c.requires.codes_value.0, (omega (arith, c.min-count.ensures, c.requires.codes_value.1), omega (arith, c.min-count.ensures))); block_len = c.requires.block_len }
