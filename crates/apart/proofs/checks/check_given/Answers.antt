-- `check_given` meets its contract: the list, then the others. Assumes nothing.
use Rattle.apart.proofs.Checking.{list_fine, bad_list_lem}
use Rattle.apart.proofs.checks.check_given.Goals as goal

pub returns-in-Yes : goal.returns-in-Yes
returns-in-Yes c =
    list_fine _ _ _ _ _ c.check_list-shape.ensures c.in-Yes.is c.check_asked.ensures

pub returns-in_default : goal.returns-in_default
returns-in_default c = bad_list_lem _ _ _ _ _ c.check_list-shape.ensures c.in_default.not-Yes
