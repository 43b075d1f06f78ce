-- `catmull_rom::segment_at` meets its contract: channel by channel. Assumes nothing.
use Rattle.blend.specs.CatmullRom.{segment_at}
use Rattle.blend.proofs.Channels.{same_rgba}
use Rattle.blend.proofs.catmull_rom.segment_at.Goals as goal

pub returns : goal.returns
unfolding segment_at
returns c = same_rgba c.cubic_at.ensures c.cubic_at-2.ensures c.cubic_at-3.ensures c.cubic_at-4.ensures
