-- `catmull_rom::segment` meets its contract: drawn with the chords of its own four colours. Assumes nothing.
use mathlib.Core.Path.{◌∙◌}
use Rattle.blend.proofs.Curves.{drawn_by_own}
use Rattle.blend.proofs.catmull_rom.segment.Goals as goal

pub returns : goal.returns
returns c =
    c.draw_segment.ensures
    ∙ drawn_by_own _ _ _ _ c.chords.ensures c.chords-2.ensures c.chords-3.ensures
