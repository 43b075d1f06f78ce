-- `reply_of` meets its contract: by the case of the answer. Assumes nothing.
use native.Mathlib.Omega.{arith}
use Rattle.desk.proofs.Making.{done_fits, done_reply, refused_reply}
use Rattle.desk.proofs.calls.reply_of.Goals as goal

pub overflow_cast-result : goal.overflow_cast-result
overflow_cast-result c = record { fits = omega (arith, done_fits c.in-Done.is c.requires) }

pub returns-in-Refused : goal.returns-in-Refused
returns-in-Refused c = refused_reply c.in-Refused.is

pub returns-in-Done : goal.returns-in-Done
returns-in-Done c = done_reply c.in-Done.is
