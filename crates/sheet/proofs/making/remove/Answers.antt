-- `remove` meets its contract: what comes after is moved back. Assumes nothing.
use mathlib.Core.Path.{◌∙◌}
use Prim.Native.Nat.{◌+◌, ◌*◌}
use native.Mathlib.Omega.{arith}
use Rattle.sheet.proofs.Gaps.{moved, removed}
use Rattle.sheet.proofs.making.remove.Goals as goal

pub returns : goal.returns
returns c =
    let n = c.args.stops in
    let k = c.args.k in record {
      positions_value = moved c.args.positions.now (k + 1) n k c.requires.0 c.requires.1.0 (omega (arith, c.requires.0, c.requires.1.0)) c.copy_within.ensures.after ∙ removed c.args.positions.now n k 1 c.requires.0 c.requires.1.0;
      channels_value = moved c.args.channels.now (4 * k + 4) (4 * n) (4 * k) (omega (arith, c.requires.0)) c.requires.1.1 (omega (arith, c.requires.0, c.requires.1.1)) c.copy_within-2.ensures.after ∙ removed c.args.channels.now (4 * n) (4 * k) 4 (omega (arith, c.requires.0)) c.requires.1.1;
    }
