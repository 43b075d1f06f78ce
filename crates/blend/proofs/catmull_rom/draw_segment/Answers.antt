-- `catmull_rom::draw_segment` meets its contract: channel by channel. Assumes nothing.
use Rattle.blend.specs.Chords.{segment_drawn}
use Rattle.blend.proofs.Channels.{same_four}
use Rattle.blend.proofs.catmull_rom.draw_segment.Goals as goal

pub returns : goal.returns
unfolding segment_drawn
returns c = same_four c.coefficients.ensures c.coefficients-2.ensures c.coefficients-3.ensures c.coefficients-4.ensures
