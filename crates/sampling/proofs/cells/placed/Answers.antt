-- `placed` meets its contract: by the place. Assumes nothing.
use Rattle.sampling.proofs.Nearness.{by_end, by_nowhere, by_between}
use Rattle.sampling.proofs.cells.placed.Goals as goal

pub returns-in-End : goal.returns-in-End
returns-in-End c =
    let a = c.args in
    by_end a.kind a.positions.now a.channels.now a.t _ c.in-End.is c.colour.ensures

pub returns-in-Nowhere : goal.returns-in-Nowhere
returns-in-Nowhere c =
    let a = c.args in
    by_nowhere a.kind a.positions.now a.channels.now a.t c.in-Nowhere.is

pub returns-in-Between : goal.returns-in-Between
returns-in-Between c =
    let a = c.args in
    by_between a.kind a.positions.now a.channels.now a.t _ c.in-Between.is c.pair_at.ensures
