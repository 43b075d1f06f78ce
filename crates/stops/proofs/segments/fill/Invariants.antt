-- `fill` meets its contract: after i turns the first i segments are there, and the next pair is handed its chords. Assumes nothing.
use Prim.Native.Nat.{◌+◌, ◌-◌, ◌<◌}
use Rattle.stops.specs.Segments.{Chords}
use Rattle.stops.proofs.Tables.{Tabled}
use Rattle.stops.proofs.segments.fill.Given as goal

abbrev pub invariant-loop-i : goal.invariant-loop-i
invariant-loop-i l = Tabled l.channels l.n l.base l.initial.table l.i l.table × (l.i < l.n - l.base → Chords l.channels (l.base + l.i) l.last l.within)
