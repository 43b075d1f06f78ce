-- A step from a place of plain fields. Assumes nothing.
use mathlib.Core.Path.{◌≡◌, subst}
use lib.Ieee.{Float}
use Rattle.stops.specs.Lent.{Ramp}
use Rattle.sampling.specs.Lent.{Held}
use Rattle.next_stop.specs.Step.{HandsOut}
use Rattle.next_stop.specs.declared.ListPlace.{ListPlace}
use Rattle.next_stop.specs.declared.Handed.{Handed}

pub from_place : {ramp : Ramp} {asked : Float} {was : Held} {p q : ListPlace} {r : Handed} → p ≡ q → HandsOut ramp asked was p r → HandsOut ramp asked was q r
from_place {ramp} {asked} {was} {p} {q} {r} e w = subst (λ (x : ListPlace). HandsOut ramp asked was x r) e w
