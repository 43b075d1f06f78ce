-- `pairs::stop_at` meets its contract: the position that was read, with its colour. Assumes nothing.
use mathlib.Core.Path.{ap}
use lib.Ieee.{Float}
use Rattle.blend.specs.declared.Rgba.{Rgba}
use Rattle.blend.specs.declared.Stop.{Stop}
use Rattle.stops.specs.Stops.{pos_at}
use Rattle.paint.proofs.pairs.stop_at.Goals as goal

abbrev stop_with : Float → Rgba → Stop
stop_with p x = record { position = p; colour = x }

pub returns : goal.returns
returns c =
    let a = c.args in
    ap (λ (x : Rgba). stop_with (pos_at a.positions.now a.i) x) c.colour.ensures
