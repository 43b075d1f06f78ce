-- `catmull_rom::chords` meets its contract: channel by channel. Assumes nothing.
use Rattle.std.proofs.Common.{rules}
use Rattle.blend.specs.Chords.{chords_of}
use Rattle.blend.proofs.catmull_rom.chords.Goals as goal

pub returns : goal.returns
unfolding chords_of
returns c = search rules
