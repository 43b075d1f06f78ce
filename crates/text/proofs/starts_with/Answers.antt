-- `starts_with` meets its contract: the slice tells it. Assumes nothing.
use mathlib.Core.Path.{◌∙◌}
use Rattle.text.proofs.Bytes.{starts_is}
use Rattle.text.proofs.starts_with.Goals as goal

pub returns : goal.returns
returns c = c.starts_with.ensures.value ∙ starts_is c.args.p.now c.args.s.now
