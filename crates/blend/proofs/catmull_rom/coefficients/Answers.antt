-- `catmull_rom::coefficients` meets its contract: tangents, then the cubic. Assumes nothing.
use Rattle.blend.proofs.Curves.{coefficients_are}
use Rattle.blend.proofs.catmull_rom.coefficients.Goals as goal

pub returns : goal.returns
returns c =
    let a = c.args in
    coefficients_are a.v0 a.v1 a.v2 a.v3 a.before a.within a.after c.tangent_of-m1.ensures c.tangent_of-m2.ensures c.cubic_of.ensures
