-- `hued::blend_costly` meets its contract: by the colouring, and what the calls ensure. Assumes nothing.
use Rattle.gradient.proofs.GimpLaws.{costly-hued, costly-curved}
use Rattle.gradient.proofs.hued.blend_costly.Goals as goal

pub returns-then-is_hued : goal.returns-then-is_hued
returns-then-is_hued c = costly-hued _ _ _ c.is_hued.ensures c.if-is_hued.true c.blend_hued.ensures

pub returns : goal.returns
returns c = costly-curved _ _ _ c.is_hued.ensures c.if-is_hued.false c.blend_curve.ensures
