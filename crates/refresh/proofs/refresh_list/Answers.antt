-- `refresh_list` meets its contract: a refusal changes nothing; else the record is refreshed from the changed ramp and the list made of it. Assumes nothing.
use mathlib.Core.Path.{sym}
use native.Mathlib.Omega.{arith}
use lib.ListN.{length-replicate}
use lib.Seq.{length-take-le}
use Rattle.float.specs.F32.{f0}
use Rattle.refusals.specs.Limits.{most_stops}
use Rattle.refresh.proofs.RefreshAnswers.{refresh_list_refused, refresh_list_done}
use Rattle.refresh.proofs.refresh_list.Goals as goal

pub check_and_copy-requires : goal.check_and_copy-requires
unfolding most_stops
check_and_copy-requires c = (length-replicate 2049 f0, length-replicate 8196 f0)

pub overflow_mul-m : goal.overflow_mul-m
unfolding most_stops
overflow_mul-m c = omega (arith, (c.check_and_copy.ensures.prepared _ c.in-Stops.is).few)

pub slice_bounds-copied_positions-end : goal.slice_bounds-copied_positions-end
slice_bounds-copied_positions-end c =
    (c.check_and_copy.ensures.prepared _ c.in-Stops.is).placed

pub slice_bounds-changed-end : goal.slice_bounds-changed-end
slice_bounds-changed-end c =
    sym (length-take-le _ _ (c.check_and_copy.ensures.prepared _ c.in-Stops.is).placed)

pub slice_bounds-copied_channels-end : goal.slice_bounds-copied_channels-end
slice_bounds-copied_channels-end c =
    (c.check_and_copy.ensures.prepared _ c.in-Stops.is).coloured

pub slice_bounds-changed-end-in-Stops : goal.slice_bounds-changed-end-in-Stops
slice_bounds-changed-end-in-Stops c =
    sym (length-take-le _ _ (c.check_and_copy.ensures.prepared _ c.in-Stops.is).coloured)

pub returns-in-Refused : goal.returns-in-Refused
returns-in-Refused c =
    refresh_list_refused _ _ _ _ _ _ (c.check_and_copy.ensures.refused _ c.in-Refused.is)

pub returns-in-Stops : goal.returns-in-Stops
returns-in-Stops c =
    let made = c.check_and_copy.ensures.prepared _ c.in-Stops.is in
    refresh_list_done _ _ _ _ made.fine _ _ made.same c.kept.ensures _ _ c.relist.ensures
