-- `is_same` meets its contract: slices are the same where their bytes are. Assumes nothing.
use mathlib.Core.Path.{◌∙◌}
use Rattle.text.proofs.Bytes.{same_is}
use Rattle.text.proofs.is_same.Goals as goal

pub returns : goal.returns
returns c = c.eq.ensures ∙ same_is c.args.p.now c.args.s.now
