-- `stops::colour` meets its contract: four channels of one chunk. Assumes nothing.
use mathlib.Core.List.{[]}
use native.Mathlib.Omega.{arith}
use Rattle.stops.proofs.Reading.{colour_of_chunk}
use Rattle.stops.proofs.channels.colour.Goals as goal

pub returns-in-Some : goal.returns-in-Some
returns-in-Some c =
    let found = c.in-Some.ensures.lookup in
    colour_of_chunk c.args.channels.now _ c.in-Some.field-0.now c.args.i c.as_chunks.ensures.front (omega (arith, found.3.0, c.as_chunks.ensures.front_len)) (found.4 (omega arith) [])
