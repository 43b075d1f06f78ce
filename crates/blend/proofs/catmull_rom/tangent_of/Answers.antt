-- `catmull_rom::tangent_of` meets its contract: not-a-number becomes 0. Assumes nothing.
use Rattle.blend.specs.CatmullRom.{tangent}
use Rattle.blend.proofs.Curves.{was_nan, no_nan}
use Rattle.blend.proofs.catmull_rom.tangent_of.Goals as goal

pub returns-then-m : goal.returns-then-m
unfolding tangent
returns-then-m c = was_nan _ _ c.if-m.true

pub returns-else-m : goal.returns-else-m
unfolding tangent
returns-else-m c = no_nan _ _ c.if-m.false
