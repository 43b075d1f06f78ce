-- `answer` meets its contract: what is written is what there is to say. Assumes nothing.
use Rattle.text.proofs.Putting.{puts_as}
use Rattle.desk.proofs.answer.Goals as goal

pub returns : goal.returns
returns c = puts_as c.write.ensures c.reply_to-reply.ensures.is
