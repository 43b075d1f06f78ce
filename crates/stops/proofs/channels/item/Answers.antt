-- `stops::item` meets its contract: an index past the end reads not-a-number. Assumes nothing.
use mathlib.Core.Path.{ap, ◌∙◌}
use lib.Ieee.{nan, of_bits}
use native.Mathlib.Omega.{arith}
use Rattle.std.specs.Option.{unwrap_or}
use Rattle.stops.proofs.channels.item.Goals as goal

pub returns : goal.returns
unfolding of_bits
returns c = c.unwrap_or.ensures ∙ ap (λ o. unwrap_or o nan) c.copied.ensures ∙ c.get.ensures.lookup.4 (omega arith) nan
