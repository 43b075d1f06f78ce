-- `decimal::long::by_parts` meets its contract: its digits, and what follows them. Assumes nothing.
use mathlib.Core.Path.{◌∙◌}
use native.Mathlib.Omega.{arith}
use Rattle.decimal.proofs.long.by_parts.Goals as goal

pub with_power-requires : goal.with_power-requires
with_power-requires c = let d = c.digits_of-d.ensures in (d.within, (omega (arith, d.within, d.zeros), omega (arith, d.within, d.places)))

pub returns : goal.returns
returns c = let d = c.digits_of-d.ensures in c.with_power.ensures d.ds d.counts d.many ∙ d.is
