-- How a contract reads a ramp from what is lent: in code it is a struct of three slices and a kind, here one record of lists.
use Rattle.stops.specs.Lent.{Ramp, ramp_of}
use Rattle.gradient.specs.declared.Ramp.{Ramp as Lent}

abbrev pub lent_ramp : Lent → Ramp
lent_ramp r = ramp_of r.kind r.positions.now r.channels.now r.codes.now
