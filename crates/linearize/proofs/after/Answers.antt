-- `after` meets its contract: by the case of the answer. Assumes nothing.
use Rattle.linearize.proofs.Lists.{after_refused, after_done}
use Rattle.linearize.proofs.after.Goals as goal

pub returns-in-Refused : goal.returns-in-Refused
returns-in-Refused c = after_refused _ _ _ c.in-Refused.is

pub returns-in-Done : goal.returns-in-Done
returns-in-Done c = after_done _ _ _ _ _ c.in-Done.is c.sum-all.ensures
