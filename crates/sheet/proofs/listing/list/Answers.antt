-- `list` meets its contract: the list, then its answer with what was spent before it. Assumes nothing.
use Rattle.sheet.proofs.Lists.{lists_by}
use Rattle.sheet.proofs.listing.list.Goals as goal

pub returns : goal.returns
returns c =
    lists_by _ _ _ _ _ _ _ _ _ _ c.list_by-made.ensures c.after.ensures c.answer_by.ensures
