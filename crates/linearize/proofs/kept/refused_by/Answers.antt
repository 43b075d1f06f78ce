-- `refused_by` meets its contract: by the case of the check. Assumes nothing.
use Rattle.linearize.proofs.kept.refused_by.Goals as goal

pub returns-in-Refused : goal.returns-in-Refused
returns-in-Refused c = rw c.in-Refused.is

pub returns-in-Fine : goal.returns-in-Fine
returns-in-Fine c = rw c.in-Fine.is
