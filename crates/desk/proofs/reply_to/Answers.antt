-- `reply_to` meets its contract: by the case of what was read. Assumes nothing.
use mathlib.Core.Path.{refl}
use Rattle.desk.proofs.Making.{says_as}
use Rattle.desk.proofs.Asking.{says_unread, reads_ready, too_many, ramp_read}
use Rattle.desk.proofs.reply_to.Goals as goal

pub returns-then-stops-gt-MOST_KEPT : goal.returns-then-stops-gt-MOST_KEPT
returns-then-stops-gt-MOST_KEPT c = too_many (reads_ready c.read.ensures c.in-Ok.is) c.if-stops-gt-MOST_KEPT.true

pub returns-in-Err : goal.returns-in-Err
returns-in-Err c = says_unread c.read.ensures c.in-Err.is

pub returns-else-stops-gt-MOST_KEPT : goal.returns-else-stops-gt-MOST_KEPT
returns-else-stops-gt-MOST_KEPT c = says_as c.list_of.ensures (ramp_read (reads_ready c.read.ensures c.in-Ok.is) refl refl c.if-stops-gt-MOST_KEPT.false)
