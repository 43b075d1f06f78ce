-- `insert` meets its contract: what comes after is moved on, then the stop is stored. Assumes nothing.
use mathlib.Core.List.{[], ◌∷◌}
use Prim.Native.Nat.{◌+◌, ◌*◌}
use native.Mathlib.Omega.{arith}
use Rattle.blend.specs.Channels.{channels_of}
use Rattle.sheet.proofs.Gaps.{moved, put_in}
use Rattle.sheet.proofs.making.insert.Goals as goal

pub returns : goal.returns
returns c =
    let n = c.args.stops in
    let k = c.args.k in record {
      positions_value = put_in c.args.positions.now _ _ n k (c.args.p ∷ []) c.requires.0 (omega (arith, c.requires.1.0))
          (moved c.args.positions.now k n (k + 1) c.requires.0 (omega (arith, c.requires.1.0)) (omega (arith, c.requires.0, c.requires.1.0)) c.copy_within.ensures.after)
          c.put.ensures;
      channels_value = put_in c.args.channels.now _ _ (4 * n) (4 * k) (channels_of c.args.c) (omega (arith, c.requires.0)) (omega (arith, c.requires.1.1))
          (moved c.args.channels.now (4 * k) (4 * n) (4 * k + 4) (omega (arith, c.requires.0)) (omega (arith, c.requires.1.1)) (omega (arith, c.requires.0, c.requires.1.1)) c.copy_within-2.ensures.after)
          c.put_colour.ensures;
    }
