-- `blending::blend_curve` meets its contract: an end colour, or mixed at the factor that the call ensures. Assumes nothing.
use mathlib.Core.Path.{refl}
use Rattle.blend.specs.Blend.{linear}
use Rattle.gradient.specs.Gimp.{curved}
use Rattle.gradient.proofs.GimpLaws.{curve_right, curve_left, curve_at}
use Rattle.gradient.proofs.blending.blend_curve.Goals as goal

pub returns-then-pivot : goal.returns-then-pivot
unfolding curved
returns-then-pivot c = let a = c.args in curve_right a.g a.pivot a.place (λ x. x) (linear a.g.lcolor a.g.rcolor) c.if-pivot.true refl

pub returns-then-pivot-2 : goal.returns-then-pivot-2
unfolding curved
returns-then-pivot-2 c = let a = c.args in curve_left a.g a.pivot a.place (λ x. x) (linear a.g.lcolor a.g.rcolor) c.if-pivot.false c.if-pivot-2.true refl

pub returns : goal.returns
unfolding curved
returns c =
    let a = c.args in
    curve_at a.g a.pivot a.place (λ x. x) (linear a.g.lcolor a.g.rcolor) c.if-pivot.false c.if-pivot-2.false c.factor-f.ensures c.interpolate_linear.ensures
