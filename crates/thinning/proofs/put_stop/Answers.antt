-- `put_stop` meets its contract: past the end there are no stores. Assumes nothing.
use mathlib.Core.Path.{sym}
use native.Mathlib.Omega.{arith}
use Rattle.blend.specs.Channels.{channels_of}
use Rattle.slices.proofs.Stores.{sets_out}
use Rattle.thinning.proofs.put_stop.Goals as goal

pub returns-else-n-out : goal.returns-else-n-out
returns-else-n-out c = sym (sets_out c.args.out.now _ (channels_of c.args.c) (omega (arith, c.if-n-out.false)))
