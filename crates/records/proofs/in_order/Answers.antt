-- `in_order` meets its contract: by the case of the first. Assumes nothing.
use Rattle.records.proofs.in_order.Goals as goal

pub returns-in-Refused : goal.returns-in-Refused
returns-in-Refused c = rw c.in-Refused.is

pub returns-in-Fine : goal.returns-in-Fine
returns-in-Fine c = rw c.in-Fine.is
