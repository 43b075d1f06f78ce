-- `catmull_rom::chord_of` meets its contract: the root that its crate proves. Assumes nothing.
use mathlib.Core.Path.{◌∙◌, ap}
use Rattle.sqrt.specs.Root.{root_of}
use Rattle.blend.specs.CatmullRom.{chord}
use Rattle.blend.proofs.catmull_rom.chord_of.Goals as goal

pub returns : goal.returns
unfolding chord
returns c = c.root.ensures ∙ ap root_of c.magnitude.ensures
