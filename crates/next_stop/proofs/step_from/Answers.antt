-- `step_from` meets its contract: by the case of the place. Assumes nothing.
use mathlib.Core.Path.{◌∙◌}
use Rattle.next_stop.proofs.Handing.{within_row, within_record, from_end, from_start, from_after}
use Rattle.next_stop.proofs.step_from.Goals as goal

pub find-f-requires : goal.find-f-requires
find-f-requires c =
    let e = c.in-After.is in
    record { ready = (c.requires.ready.0, (within_record _ _ _ _ e c.requires.place_value, within_row _ _ _ _ e c.requires.place_value)); codes_value = c.requires.ready.1 }

pub hand_out-requires-in-After : goal.hand_out-requires-in-After
hand_out-requires-in-After c = c.find-f.ensures.few

pub returns-in-Ended : goal.returns-in-Ended
returns-in-Ended c = from_end _ _ _ _ _ _ c.in-Ended.is

pub returns-in-Start : goal.returns-in-Start
returns-in-Start c =
    let w = c.lone_point-p.ensures in
    from_start _ _ _ _ _ _ _ c.lone_point-p.result c.in-Start.is (w.0 ∙ c.point_at.ensures, w.1) c.hand_out.ensures

pub returns-in-After : goal.returns-in-After
returns-in-After c =
    from_after _ _ _ _ _ _ _ _ _ c.find-f.result c.in-After.is c.find-f.ensures c.hand_out-in-After.ensures
