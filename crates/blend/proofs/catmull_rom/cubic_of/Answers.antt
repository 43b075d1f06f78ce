-- `catmull_rom::cubic_of` meets its contract: by definition. Assumes nothing.
use mathlib.Core.Path.{refl}
use Rattle.blend.specs.CatmullRom.{cubic}
use Rattle.blend.proofs.catmull_rom.cubic_of.Goals as goal

pub returns : goal.returns
unfolding cubic
returns c = refl
