-- `fill_each` meets its contract: the colours so far are there, and the pair of the last point is drawn. Assumes nothing.
use mathlib.Core.Path.{◌∙◌}
use native.Mathlib.Omega.{arith}
use lib.ListN.{length-set}
use Rattle.gradient.specs.Lent.{lent_ramp}
use Rattle.gradient.specs.Ramp.{colour_of}
use Rattle.within.proofs.Blocks.{filled_next, filled_hand}
use Rattle.within.proofs.block.fill_each.Goals as goal

pub loop-i-init : goal.loop-i-init
loop-i-init c = (omega arith, (c.requires.block_len, ((λ j h. absurd (omega arith)), (λ d l. absurd (omega (arith, l))))))

pub point_in-x-requires : goal.point_in-x-requires
point_in-x-requires c =
    record { codes_value = c.requires.codes_value.0; carrying = c.loop-i.invariant.1.1.1 }

pub loop-i-preserved : goal.loop-i-preserved
loop-i-preserved c =
    let k = c.loop-i.invariant in
    let a = c.args in
    let w = c.point_in-x.ensures in (
      omega (arith, c.loop-i-test.true),
      (
        length-set c.loop-i.block c.loop-i.i _ ∙ k.1.0,
        (
          filled_next (colour_of (lent_ramp a.ramp.now)) a.ts.now a.base c.loop-i.i c.loop-i.block c.point_in-x.result (omega (arith, c.loop-i-test.true, k.1.0, c.requires.codes_value.1.1)) w.point_at k.1.1.0,
          w.carrying_2,
        ),
      ),
    )

pub returns : goal.returns
returns c =
    let k = c.loop-i.invariant in
    filled_hand _ _ _ _ _ _ c.loop-i-test.false k.1.0 c.requires.codes_value.1.1 c.requires.codes_value.1.0 k.1.1.0
