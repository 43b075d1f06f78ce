-- `list_by` meets its contract: by the sort. Assumes nothing.
use Rattle.sheet.proofs.Lists.{thinned_by, within_by}
use Rattle.sheet.proofs.listing.list_by.Goals as goal

pub returns-in-Thinned : goal.returns-in-Thinned
returns-in-Thinned c = thinned_by _ _ _ _ _ _ c.in-Thinned.is c.thin.ensures

pub returns-in-Within : goal.returns-in-Within
returns-in-Within c = within_by _ _ _ _ _ _ _ c.in-Within.is c.thin_within.ensures
