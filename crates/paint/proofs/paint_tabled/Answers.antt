-- `paint_tabled` meets its contract: the points are painted with the segments of the first pairs in hand. Assumes nothing.
use mathlib.Core.Path.{sym}
use lib.Seq.{length-take-le}
use Rattle.stops.proofs.Tables.{filled_window, filled_segments}
use Rattle.paint.proofs.paint_tabled.Goals as goal

pub slice_bounds-paint_catmull-end-2 : goal.slice_bounds-paint_catmull-end-2
slice_bounds-paint_catmull-end-2 c =
    sym (length-take-le _ c.fill-m.new.table (filled_window _ _ _ _ _ _ c.fill-m.ensures).fits)

pub paint_catmull-requires : goal.paint_catmull-requires
paint_catmull-requires c =
    record { paintable = c.requires; segments = filled_segments _ _ _ _ _ _ c.fill-m.ensures }
