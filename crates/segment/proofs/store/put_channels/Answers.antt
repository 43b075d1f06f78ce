-- `put_channels` meets its contract: two colours in a row; past the end there are none. Assumes nothing.
use native.Mathlib.Omega.{arith}
use mathlib.Core.Path.{sym}
use Rattle.segment.specs.inner.Steps.{ends_channels}
use Rattle.slices.proofs.Stores.{sets_out}
use Rattle.segment.proofs.Stored.{two_colours}
use Rattle.segment.proofs.store.put_channels.Goals as goal

pub returns-then-i-out : goal.returns-then-i-out
returns-then-i-out c =
    let a = c.args in
    two_colours a.out.now _ _ _ a.left a.right c.put_colour.ensures c.put_colour-then-i-out.ensures

pub returns-else-i-out : goal.returns-else-i-out
returns-else-i-out c = let a = c.args in sym (sets_out a.out.now _ (ends_channels a.left a.right) (omega arith))
