-- `thin_record` meets its contract: the points thinned, and the answer. Assumes nothing.
use Rattle.gradient.specs.Lent.{lent_ramp}
use Rattle.gradient.specs.Ramp.{colour_of}
use Rattle.difference.specs.Difference.{exceeds}
use Rattle.places.specs.Places.{list_of}
use Rattle.thinning.specs.Walk.{run}
use Rattle.linearize.proofs.Lists.{made_list}
use Rattle.linearize.proofs.listing.thin_record.Goals as goal

pub returns : goal.returns
returns c =
    let a = c.args in
    let g = colour_of (lent_ramp a.ramp.now) in
    let k = c.thin_all-s in
    let f = c.finish in
    let r = run k.result k.new.places k.new.colours in
    made_list g (exceeds a.cutoff) c.room_of-room.result (list_of a.rows.now a.counts.now a.max) a.places.now a.colours.now _ c.room_of-room.ensures r k.ensures.ends
    k.auto.places k.auto.colours
    f.new.places f.new.colours f.result f.ensures.value f.ensures.places_value f.ensures.colours_value
