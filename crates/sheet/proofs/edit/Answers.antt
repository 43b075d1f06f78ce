-- `edit` meets its contract: the record is refreshed, the edit made in place, and the list made anew; a refusal before that changes nothing. Assumes nothing.
use mathlib.Core.Path.{◌≡◌, refl, sym, ◌∙◌}
use mathlib.Core.Bool.{true}
use Prim.Native.Nat.{◌*◌, ◌≤◌}
use native.Mathlib.Omega.{arith}
use lib.ListN.{length}
use lib.Seq.{length-take-le}
use Rattle.stops.specs.Lent.{Ramp, ramp_of}
use Rattle.sheet.specs.Room.{stops_fit}
use Rattle.sheet.proofs.Rooms.{fit_is, positions_held, channels_held}
use Rattle.sheet.proofs.Editing.{edit_misshapen, edit_refused, Taken, taken, may_make, left_few, positions_hold, channels_hold, edit_done}
use Rattle.sheet.proofs.edit.Goals as goal
use Rattle.sheet.proofs.edit.Lts
use Rattle.sheet.proofs.edit.Tie
use Rattle.sheet.proofs.edit.Reads

abbrev At-After-make : Type 0
At-After-make = Lts.After-make Tie.the-claims Reads.Pre Reads.Post

-- what is known once the edit is made in place
module _ (c : At-After-make) where
  abbrev room : Ramp
  room = let a = c.args in ramp_of a.kind a.positions.now a.channels.now a.codes.now

  fits : stops_fit room.kind c.args.stops (length room.positions) (length room.channels) ≡ true
  fits = sym c.fits.ensures ∙ c.if-not-fits.false

  abbrev known : Taken room c.args.stops c.args.edit _ fits _ _ _ c.positions_of-n.ensures c.channels_of-m.ensures c.with_room-made.ensures _ _ c.refresh.ensures c.in-Done.spent
  known = taken room c.args.stops c.args.edit _ fits _ _ _ c.positions_of-n.ensures c.channels_of-m.ensures c.with_room-made.ensures _ _ c.refresh.ensures _ c.in-Done.is

  few : c.make-left.result ≤ 2048
  few = left_few room c.args.stops c.args.edit _ _ fits known.fine _ c.with_room-made.ensures _ _ _ c.make-left.ensures

  positions_there : c.make-left.result ≤ length c.make-left.new.positions
  positions_there = positions_hold room c.args.stops c.args.edit _ _ fits known.fine _ c.with_room-made.ensures _ _ _ c.make-left.ensures

  channels_there : 4 * c.make-left.result ≤ length c.make-left.new.channels
  channels_there = channels_hold room c.args.stops c.args.edit _ _ fits known.fine _ c.with_room-made.ensures _ _ _ c.make-left.ensures

pub returns-then-not-fits : goal.returns-then-not-fits
returns-then-not-fits c = edit_misshapen _ _ _ _ _ _ _ (sym c.fits.ensures ∙ c.if-not-fits.true)

pub positions_of-n-requires : goal.positions_of-n-requires
positions_of-n-requires c = (fit_is _ _ _ _ (sym c.fits.ensures ∙ c.if-not-fits.false)).most

pub channels_of-m-requires : goal.channels_of-m-requires
channels_of-m-requires c = (fit_is _ _ _ _ (sym c.fits.ensures ∙ c.if-not-fits.false)).most

pub with_room-made-requires : goal.with_room-made-requires
with_room-made-requires c = (fit_is _ _ _ _ (sym c.fits.ensures ∙ c.if-not-fits.false)).most

pub slice_bounds-ramp-end : goal.slice_bounds-ramp-end
slice_bounds-ramp-end c = positions_held _ _ _ _ (sym c.fits.ensures ∙ c.if-not-fits.false) c.positions_of-n.ensures

pub slice_bounds-ramp-end-2 : goal.slice_bounds-ramp-end-2
slice_bounds-ramp-end-2 c = sym (length-take-le _ _ (positions_held _ _ _ _ (sym c.fits.ensures ∙ c.if-not-fits.false) c.positions_of-n.ensures))

pub slice_bounds-ramp-end-3 : goal.slice_bounds-ramp-end-3
slice_bounds-ramp-end-3 c = channels_held _ _ _ _ (sym c.fits.ensures ∙ c.if-not-fits.false) c.channels_of-m.ensures

pub slice_bounds-ramp-end-4 : goal.slice_bounds-ramp-end-4
slice_bounds-ramp-end-4 c = sym (length-take-le _ _ (channels_held _ _ _ _ (sym c.fits.ensures ∙ c.if-not-fits.false) c.channels_of-m.ensures))

pub returns-in-Refused : goal.returns-in-Refused
returns-in-Refused c =
    let a = c.args in
    edit_refused (ramp_of a.kind a.positions.now a.channels.now a.codes.now) a.stops a.edit _ (sym c.fits.ensures ∙ c.if-not-fits.false) _ _ _ c.positions_of-n.ensures c.channels_of-m.ensures c.with_room-made.ensures _ _ c.refresh.ensures _ _ _ c.in-Refused.is

pub make-left-requires : goal.make-left-requires
make-left-requires c =
    let a = c.args in
    let room = ramp_of a.kind a.positions.now a.channels.now a.codes.now in
    let fits : stops_fit a.kind a.stops (length room.positions) (length room.channels) ≡ true = sym c.fits.ensures ∙ c.if-not-fits.false in
    let known = taken room a.stops a.edit _ fits _ _ _ c.positions_of-n.ensures c.channels_of-m.ensures c.with_room-made.ensures _ _ c.refresh.ensures _ c.in-Done.is in
    may_make room a.stops a.edit _ _ fits known.fine _ c.with_room-made.ensures

pub overflow_mul-m : goal.overflow_mul-m
overflow_mul-m c = omega (arith, few c.before.before.before.before.before)

pub slice_bounds-ramp-end-in-Done : goal.slice_bounds-ramp-end-in-Done
slice_bounds-ramp-end-in-Done c = positions_there c.before.before.before.before.before

pub slice_bounds-ramp-end-in-Done-2 : goal.slice_bounds-ramp-end-in-Done-2
slice_bounds-ramp-end-in-Done-2 c = sym (length-take-le _ _ (positions_there c.before.before.before.before.before))

pub slice_bounds-ramp-end-in-Done-3 : goal.slice_bounds-ramp-end-in-Done-3
slice_bounds-ramp-end-in-Done-3 c = channels_there c.before.before.before.before.before

pub slice_bounds-ramp-end-in-Done-4 : goal.slice_bounds-ramp-end-in-Done-4
slice_bounds-ramp-end-in-Done-4 c = sym (length-take-le _ _ (channels_there c.before.before.before.before.before))

pub returns-in-Done : goal.returns-in-Done
returns-in-Done c =
    let k = c.before.before.before.before.before.before.before.before.before.before.before.before.before in
    let t = known k in
    edit_done (room k) c.args.stops c.args.edit _ _ (fits k) t.fine _ c.with_room-made.ensures _ _ _ c.make-left.ensures
    _ _ _ _ _ _ refl t.left t.spent_is c.list.ensures
