-- `paint_cubics` meets its contract: the points are painted with a table of segments, or with none. Assumes nothing.
use mathlib.Core.List.{[]}
use Rattle.stops.proofs.Tables.{no_segments}
use Rattle.paint.proofs.paint_cubics.Goals as goal

pub paint_catmull-requires : goal.paint_catmull-requires
paint_catmull-requires c =
    record { paintable = c.requires; segments = no_segments _ _ _ [] }
