-- `fall` meets its contract: below the bottom the whole part is from 0 to 31. Assumes nothing.
use mathlib.Core.Path.{ap, ◌∙◌}
use mir.Facts.{to_z-of_z}
use mir.Syntax.{w64}
use Rattle.curve.specs.Factor.{lowered_of}
use lib.IntN.{nat_abs}
use Rattle.curve.proofs.Falling.{fall_none, fall_some}
use Rattle.curve.proofs.Tested.{few_steps}
use Rattle.curve.proofs.fall.Goals as goal

pub returns-then-r : goal.returns-then-r
returns-then-r c = fall_none c.args.r c.if-r.true

pub overflow_cast-whole : goal.overflow_cast-whole
overflow_cast-whole c =
    let s = few_steps c.args.r c.requires c.if-r.false (to_z-of_z {w = w64} (record { sfits = c.whole.type_inv }) ∙ c.whole.ensures) in
    (s.0, s.1)

pub lowered-requires : goal.lowered-requires
lowered-requires c =
    (few_steps c.args.r c.requires c.if-r.false (to_z-of_z {w = w64} (record { sfits = c.whole.type_inv }) ∙ c.whole.ensures)).2

pub returns-else-r : goal.returns-else-r
returns-else-r c =
    let r = c.args.r in
    c.lowered.ensures ∙ ap (λ z. lowered_of r (nat_abs z)) (to_z-of_z {w = w64} (record { sfits = c.whole.type_inv }) ∙ c.whole.ensures) ∙ fall_some r c.if-r.false
