-- `colorgrad_write_ggr_told` meets its contract: the answer of `ggr_writing`, told, and what that answer leaves. Assumes nothing.
use Rattle.colorgrad_c.proofs.Writing.{shows_written}
use Rattle.colorgrad_c.proofs.writer.colorgrad_write_ggr_told.Goals as goal

pub returns : goal.returns
returns c =
    shows_written c.write-answer.ensures (c.tell_written.ensures.value, c.tell_written.ensures.told_value)
