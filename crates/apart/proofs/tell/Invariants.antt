-- `tell` meets its contract: after i turns the bytes and the counts are those of the first i depths. Assumes nothing.
use Rattle.gradient.specs.Lent.{lent_ramp}
use Rattle.gradient.specs.Ramp.{any_colour}
use Rattle.judge.specs.Lists.{offer_of, offered_ramp}
use Rattle.apart.proofs.Telling.{Filling}
use Rattle.apart.proofs.tell.Given as goal

abbrev pub invariant-loop-i : goal.invariant-loop-i
invariant-loop-i l =
    Filling (any_colour (lent_ramp l.ramp)) (any_colour (offered_ramp (offer_of l.places l.colours))) l.threshold l.step l.depths l.initial.faults l.i l.before l.tally l.faults
