-- `put_positions` meets its contract: three stores in a row; past the end there are none. Assumes nothing.
use native.Mathlib.Omega.{arith}
use mathlib.Core.Path.{sym}
use Rattle.segment.specs.Store.{segment_positions}
use Rattle.slices.proofs.Stores.{sets_out}
use Rattle.segment.proofs.Stored.{three_stores}
use Rattle.segment.proofs.store.put_positions.Goals as goal

pub returns-then-i-out : goal.returns-then-i-out
returns-then-i-out c =
    let a = c.args in
    three_stores a.out.now _ _ _ _ a.g c.put.ensures c.put-then-i-out.ensures c.put-then-i-out-2.ensures

pub returns-else-i-out : goal.returns-else-i-out
returns-else-i-out c = let a = c.args in sym (sets_out a.out.now _ (segment_positions a.g) (omega arith))
