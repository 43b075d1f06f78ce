-- `open` meets its contract: the ramp is the first stops of what is lent, sampled and listed. Assumes nothing.
use mathlib.Core.Path.{sym, ◌∙◌}
use lib.Seq.{length-take-le}
use Rattle.sheet.proofs.Rooms.{fit_is, positions_held, channels_held}
use Rattle.sheet.proofs.Opening.{open_misshapen, open_refused, open_done}
use Rattle.sheet.proofs.open.Goals as goal

pub returns-then-not-fits : goal.returns-then-not-fits
returns-then-not-fits c = open_misshapen _ _ _ _ _ _ (sym c.fits.ensures ∙ c.if-not-fits.true)

pub positions_of-n-requires : goal.positions_of-n-requires
positions_of-n-requires c = (fit_is _ _ _ _ (sym c.fits.ensures ∙ c.if-not-fits.false)).most

pub channels_of-m-requires : goal.channels_of-m-requires
channels_of-m-requires c = (fit_is _ _ _ _ (sym c.fits.ensures ∙ c.if-not-fits.false)).most

pub slice_bounds-own-end : goal.slice_bounds-own-end
slice_bounds-own-end c = sym (length-take-le _ _ (positions_held _ _ _ _ (sym c.fits.ensures ∙ c.if-not-fits.false) c.positions_of-n.ensures))

pub slice_bounds-own-end-2 : goal.slice_bounds-own-end-2
slice_bounds-own-end-2 c = sym (length-take-le _ _ (channels_held _ _ _ _ (sym c.fits.ensures ∙ c.if-not-fits.false) c.channels_of-m.ensures))

pub returns-in-Refused : goal.returns-in-Refused
returns-in-Refused c =
    open_refused _ _ _ _ (sym c.fits.ensures ∙ c.if-not-fits.false) _ _ _ c.positions_of-n.ensures c.channels_of-m.ensures _ _ _ c.in-Refused.is c.sample.ensures

pub returns-in-Done : goal.returns-in-Done
returns-in-Done c =
    open_done _ _ _ _ (sym c.fits.ensures ∙ c.if-not-fits.false) _ _ _ c.positions_of-n.ensures c.channels_of-m.ensures _ _ _ _ c.in-Done.is c.sample.ensures c.list.ensures
