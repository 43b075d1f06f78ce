-- `catmull_rom::cubic_at` meets its contract: by definition. Assumes nothing.
use mathlib.Core.Path.{refl}
use Rattle.blend.specs.CatmullRom.{cubic_at}
use Rattle.blend.proofs.catmull_rom.cubic_at.Goals as goal

pub returns : goal.returns
unfolding cubic_at
returns c = refl
