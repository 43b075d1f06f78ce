-- `copy` meets its contract: a refused edit and lengths that do not fit write nothing; else both lists are written. Assumes nothing.
use mathlib.Core.Path.{sym, ◌∙◌}
use native.Mathlib.Omega.{arith}
use Rattle.float.proofs.Flags.{failed, passed}
use Rattle.refresh.proofs.editing.Copying.{room_is, stop_there, no_copy, copy_refused, copy_done}
use Rattle.refresh.proofs.editing.copy.copy.Goals as goal

pub returns-then-not-copy_fits : goal.returns-then-not-copy_fits
returns-then-not-copy_fits c =
    no_copy _ _ _ _ _ _ (sym c.check.ensures.answer ∙ c.in-Fine.is) (failed c.if-not-copy_fits.true c.copy_fits.ensures)

pub copy_positions-requires : goal.copy_positions-requires
copy_positions-requires c =
    let a = c.args in
    let fits = passed c.if-not-copy_fits.false c.copy_fits.ensures in
    let fine = sym c.check.ensures.answer ∙ c.in-Fine.is in
    (stop_there a.ramp.now.kind a.ramp.now.positions.now a.edit fine, (room_is _ _ _ _ fits).some)

pub copy_channels-requires : goal.copy_channels-requires
copy_channels-requires c =
    let a = c.args in
    let fits = passed c.if-not-copy_fits.false c.copy_fits.ensures in
    let fine = sym c.check.ensures.answer ∙ c.in-Fine.is in
    let l = stop_there a.ramp.now.kind a.ramp.now.positions.now a.edit fine in
    let r = room_is _ _ _ _ fits in
    (omega (arith, l, r.four), r.wide)

pub stops_after-requires : goal.stops_after-requires
stops_after-requires c =
    let a = c.args in
    let fits = passed c.if-not-copy_fits.false c.copy_fits.ensures in
    let fine = sym c.check.ensures.answer ∙ c.in-Fine.is in
    (stop_there a.ramp.now.kind a.ramp.now.positions.now a.edit fine, (room_is _ _ _ _ fits).most)

pub returns-in-Refused : goal.returns-in-Refused
returns-in-Refused c = copy_refused _ _ _ _ _ _ _ (sym c.check.ensures.answer ∙ c.in-Refused.is)

pub returns-else-not-copy_fits : goal.returns-else-not-copy_fits
returns-else-not-copy_fits c =
    let a = c.args in
    let fits = passed c.if-not-copy_fits.false c.copy_fits.ensures in
    let fine = sym c.check.ensures.answer ∙ c.in-Fine.is in
    let placed = c.copy_positions in
    let coloured = c.copy_channels in
    copy_done a.ramp.now.kind a.ramp.now.positions.now a.ramp.now.channels.now a.edit a.places.now a.colours.now fine fits placed.new.to coloured.new.to _ placed.ensures coloured.ensures c.stops_after.ensures
