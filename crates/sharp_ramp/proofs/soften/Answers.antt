-- `sharp::soften` meets its contract: by what `is_finite` and `clamp` ensure. Assumes nothing.
use Rattle.sharp_ramp.proofs.Laws.{soft_finite, soft_other}
use Rattle.sharp_ramp.proofs.soften.Goals as goal

pub returns-then-is_finite : goal.returns-then-is_finite
returns-then-is_finite c = soft_finite c.args.s c.is_finite.ensures c.if-is_finite.true c.clamp.ensures

pub returns-else-is_finite : goal.returns-else-is_finite
returns-else-is_finite c = soft_other c.args.s c.is_finite.ensures c.if-is_finite.false
