-- `refresh` meets its contract: a refusal changes nothing; else the cells that are not kept are sampled anew from the changed ramp. Assumes nothing.
use mathlib.Core.Path.{sym}
use native.Mathlib.Omega.{arith}
use lib.ListN.{length-replicate}
use lib.Seq.{length-take-le}
use Rattle.float.specs.F32.{f0}
use Rattle.refusals.specs.Limits.{most_stops}
use Rattle.refresh.proofs.RefreshAnswers.{refresh_refused, refresh_done}
use Rattle.refresh.proofs.refresh.Goals as goal

pub check_and_copy-requires : goal.check_and_copy-requires
unfolding most_stops
check_and_copy-requires c = (length-replicate 2049 f0, length-replicate 8196 f0)

pub overflow_mul-m : goal.overflow_mul-m
unfolding most_stops
overflow_mul-m c = omega (arith, (c.check_and_copy.ensures.prepared _ c.in-Stops.is).few)

pub slice_bounds-copied_positions-end : goal.slice_bounds-copied_positions-end
slice_bounds-copied_positions-end c =
    (c.check_and_copy.ensures.prepared _ c.in-Stops.is).placed

pub slice_bounds-changed-end : goal.slice_bounds-changed-end
slice_bounds-changed-end c =
    sym (length-take-le _ _ (c.check_and_copy.ensures.prepared _ c.in-Stops.is).placed)

pub slice_bounds-copied_channels-end : goal.slice_bounds-copied_channels-end
slice_bounds-copied_channels-end c =
    (c.check_and_copy.ensures.prepared _ c.in-Stops.is).coloured

pub slice_bounds-changed-end-in-Stops : goal.slice_bounds-changed-end-in-Stops
slice_bounds-changed-end-in-Stops c =
    sym (length-take-le _ _ (c.check_and_copy.ensures.prepared _ c.in-Stops.is).coloured)

pub returns-in-Refused : goal.returns-in-Refused
returns-in-Refused c =
    refresh_refused _ _ _ _ _ (c.check_and_copy.ensures.refused _ c.in-Refused.is)

pub returns-in-Stops : goal.returns-in-Stops
returns-in-Stops c =
    let made = c.check_and_copy.ensures.prepared _ c.in-Stops.is in
    refresh_done _ _ _ _ made.fine _ _ made.same c.kept-keep.ensures _ c.resample.ensures
