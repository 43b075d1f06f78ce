-- `segments::chords_within` meets its contract: the chords of the pair's two colours. Assumes nothing.
use mathlib.Core.Path.{ap, ap₂, ◌∙◌}
use Rattle.blend.specs.Chords.{chords_of}
use Rattle.stops.specs.Stops.{colour_at}
use Rattle.stops.proofs.segments.chords_within.Goals as goal

pub returns : goal.returns
returns c =
    let cs = c.args.channels.now in
    let own = c.colour.ensures ∙ ap (colour_at cs) c.less.ensures in
    c.chords.ensures ∙ ap₂ chords_of own c.colour-2.ensures
