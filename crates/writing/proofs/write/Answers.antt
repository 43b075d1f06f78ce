-- `write` meets its contract: by the case of the reply. Assumes nothing.
use Rattle.writing.proofs.Texts.{reply_puts}
use Rattle.writing.proofs.write.Goals as goal

pub returns-in-Unread : goal.returns-in-Unread
returns-in-Unread c = reply_puts c.args.positions.now c.args.channels.now c.in-Unread.is c.put_unread.ensures

pub returns-in-Refused : goal.returns-in-Refused
returns-in-Refused c = reply_puts c.args.positions.now c.args.channels.now c.in-Refused.is c.put_refused.ensures

pub returns-in-Made : goal.returns-in-Made
returns-in-Made c = reply_puts c.args.positions.now c.args.channels.now c.in-Made.is c.put_list.ensures
