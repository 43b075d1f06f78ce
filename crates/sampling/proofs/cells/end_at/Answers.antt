-- `end_at` meets its contract: the point at the end of the cell. Assumes nothing.
use mathlib.Core.Path.{◌∙◌}
use Rattle.sampling.proofs.Ends.{end_is}
use Rattle.sampling.proofs.Along.{along_point, along_carries}
use Rattle.sampling.proofs.cells.end_at.Goals as goal

pub returns : goal.returns
returns c =
    let a = c.args in
    let fine = c.requires.i_le_cells.1 in
    let m = along_point _ fine _ _ c.requires.carrying c.evaluate_along.ensures in
    ((m.0 ∙ c.edge-t.ensures ∙ end_is a.task.min a.task.max a.i c.requires.i_le_cells.0, m.1), along_carries _ fine _ _ c.requires.carrying c.evaluate_along.ensures)
