-- `halve_cell` meets its contract: both ways of halving store the same midpoints. Assumes nothing.
use mathlib.Core.Path.{sym, ◌∙◌}
use native.Mathlib.Omega.{arith}
use Rattle.sampling.proofs.halving.halve_cell.Goals as goal

pub halve_drawn-requires : goal.halve_drawn-requires
halve_drawn-requires c =
    record { left_in_bounds = (omega (arith, c.requires.row_len), sym c.is_catmull_rom.ensures ∙ c.if-is_catmull_rom.true); drawn_between = c.requires.drawn_between }

pub halve-requires : goal.halve-requires
halve-requires c =
    record { left_in_bounds = omega (arith, c.requires.row_len); between = c.requires.drawn_between.between }
