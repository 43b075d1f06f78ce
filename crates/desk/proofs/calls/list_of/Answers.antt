-- `list_of` meets its contract: by the case of the edit. Assumes nothing.
use Rattle.desk.proofs.Making.{says_as, ramp_fresh, ramp_edited}
use Rattle.desk.proofs.calls.list_of.Goals as goal

pub returns-in-None : goal.returns-in-None
returns-in-None c = says_as c.fresh.ensures (ramp_fresh _ _ c.in-None.is)

pub returns-in-Some : goal.returns-in-Some
returns-in-Some c = says_as c.edited_list.ensures (ramp_edited _ _ c.in-Some.is)
