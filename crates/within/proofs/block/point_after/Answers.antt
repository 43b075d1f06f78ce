-- `point_after` meets its contract: max past the points, a colour in hand, or one that is asked for. Assumes nothing.
use mathlib.Core.Path.{◌∙◌}
use native.Mathlib.Omega.{arith}
use Rattle.sampling.proofs.Nearness.{near_point}
use Rattle.within.proofs.Blocks.{entry_is}
use Rattle.within.proofs.Questions.{after_past, after_in}
use Rattle.within.proofs.block.point_after.Goals as goal

pub returns-then-count-j : goal.returns-then-count-j
returns-then-count-j c =
    (after_past _ _ _ _ _ _ c.requires.codes_value.1.0 c.requires.codes_value.1.1.1.0 c.if-count-j.true, c.requires.in_hand_with.1)

pub overflow_sub-j-then-holds : goal.overflow_sub-j-then-holds
overflow_sub-j-then-holds c = (c.holds.ensures c.if-holds.true).0

pub colour_of-requires : goal.colour_of-requires
colour_of-requires c =
    let h = c.holds.ensures c.if-holds.true in
    omega (arith, h, c.requires.in_hand_with.0.fits)

pub returns-then-holds : goal.returns-then-holds
returns-then-holds c =
    let h = c.holds.ensures c.if-holds.true in
    (after_in _ _ _ _ _ _ c.requires.codes_value.1.0 c.requires.codes_value.1.1.1.0 c.if-count-j.false, c.colour_of.ensures ∙ entry_is _ _ _ _ c.requires.in_hand_with.0 _ h.0 h.1)

pub returns : goal.returns
returns c =
    let p = near_point _ c.requires.codes_value.0 _ _ _ c.evaluate.ensures in
    (p.0 ∙ after_in _ _ _ _ _ _ c.requires.codes_value.1.0 c.requires.codes_value.1.1.1.0 c.if-count-j.false, p.1)
