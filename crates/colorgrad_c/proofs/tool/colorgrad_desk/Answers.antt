-- `colorgrad_desk` meets its contract: how many bytes `desk` prints, and what it leaves. Assumes nothing.
use Rattle.colorgrad_c.proofs.Printing.{bytes_are}
use Rattle.colorgrad_c.proofs.tool.colorgrad_desk.Goals as goal

pub returns : goal.returns
returns c = let e = c.desk.ensures in record { value = bytes_are _ _ c.bytes_of.ensures e.answer; output_after = e.contents }
