-- `text_number` meets its contract: the number, or the one after the others. Assumes nothing.
use mathlib.Core.Path.{◌∙◌}
use Rattle.colorgrad_c.proofs.Messages.{text_least}
use Rattle.colorgrad_c.proofs.about.text_number.Goals as goal

pub returns : goal.returns
returns c = c.min.ensures ∙ text_least _ _
