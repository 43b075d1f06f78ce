-- `channels::put_colour` meets its contract: past the end there are no stores. Assumes nothing.
use mathlib.Core.Path.{sym}
use Rattle.blend.specs.Channels.{channels_of}
use Rattle.slices.proofs.Stores.{sets_out}
use Rattle.stops.proofs.channels.put_colour.Goals as goal

pub returns-then-out-k-gt3 : goal.returns-then-out-k-gt3
returns-then-out-k-gt3 c = c.put_whole.ensures

pub returns-else-out-k-gt3 : goal.returns-else-out-k-gt3
returns-else-out-k-gt3 c = c.put_torn.ensures

pub returns-else-k-out : goal.returns-else-k-out
returns-else-k-out c = sym (sets_out c.args.out.now c.args.k (channels_of c.args.c) c.if-k-out.false)
