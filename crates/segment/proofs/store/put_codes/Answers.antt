-- `put_codes` meets its contract: two stores in a row; past the end there are none. Assumes nothing.
use native.Mathlib.Omega.{arith}
use mathlib.Core.Path.{sym}
use Rattle.segment.specs.Store.{segment_codes}
use Rattle.slices.proofs.Stores.{sets_out}
use Rattle.segment.proofs.Stored.{two_codes}
use Rattle.segment.proofs.store.put_codes.Goals as goal

pub returns-then-i-out : goal.returns-then-i-out
returns-then-i-out c =
    let a = c.args in
    two_codes a.out.now _ _ _ a.g c.put_byte.ensures c.put_byte-then-i-out.ensures

pub returns-else-i-out : goal.returns-else-i-out
returns-else-i-out c = let a = c.args in sym (sets_out a.out.now _ (segment_codes a.g) (omega arith))
