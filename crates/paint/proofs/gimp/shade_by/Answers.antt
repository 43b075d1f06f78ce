-- `shade_by` meets its contract: what is by hue or curved is asked for. Assumes nothing.
use mathlib.Core.Path.{◌≡◌, refl}
use mathlib.Core.Bool.{true}
use Rattle.std.proofs.Common.{rules}
use Rattle.gradient.specs.Gimp.{is_costly}
use Rattle.gradient.proofs.GimpLaws.{by_cost}
use Rattle.paint.proofs.gimp.shade_by.Goals as goal

pub returns-then-this-ne0 : goal.returns-then-this-ne0
returns-then-this-ne0 g c =
    let costly : is_costly c.args.g.blending c.args.g.colouring ≡ true = search rules in
    by_cost _ _ _ refl costly c.blend_costly.ensures
