-- `told_at` meets its contract. Assumes nothing.
use mathlib.Core.Path.{sym, ap}
use lib.Ieee.{Float}
use Rattle.sampling.specs.Segments.{point_of}
use Rattle.sampling.proofs.cells.told_at.Goals as goal

pub returns : goal.returns
returns c =
    let a = c.args in
    ap (λ (x : Float). point_of a.p.colour x a.p.pair) (sym c.requires)
