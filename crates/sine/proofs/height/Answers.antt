-- `height` meets its contract: the steps of the sum, each of which takes off no more than there is. Assumes nothing.
use native.Mathlib.Omega.{arith}
use mathlib.Core.Path.{refl}
use Rattle.sine.proofs.Summed.{product_most, part_most, square_most, summed}
use Rattle.sine.proofs.height.Goals as goal

pub overflow_mul-z : goal.overflow_mul-z
overflow_mul-z c = let s = square_most c.args.j c.requires in record { fits = omega arith }

pub take_off-a-requires : goal.take_off-a-requires
take_off-a-requires c = (omega arith, omega arith, square_most c.args.j c.requires)

pub take_off-b-requires : goal.take_off-b-requires
take_off-b-requires c = (omega (arith, c.take_off-a.ensures.1), omega arith, square_most c.args.j c.requires)

pub take_off-c-requires : goal.take_off-c-requires
take_off-c-requires c = (omega (arith, c.take_off-b.ensures.1), omega arith, square_most c.args.j c.requires)

pub take_off-d-requires : goal.take_off-d-requires
take_off-d-requires c =
    (omega (arith, c.take_off-c.ensures.1), omega arith, square_most c.args.j c.requires)

pub overflow_mul-result : goal.overflow_mul-result
overflow_mul-result c =
    let p = product_most c.take_off-d.result _ (omega (arith, c.take_off-d.ensures.1)) (square_most c.args.j c.requires) in
    record { fits = omega arith }

pub returns : goal.returns
returns c =
    let m = part_most c.take_off-d.result _ (square_most c.args.j c.requires) in
    (summed c.args.j refl c.take_off-a.ensures.0 c.take_off-b.ensures.0 c.take_off-c.ensures.0 c.take_off-d.ensures.0 refl, omega (arith, m, c.take_off-d.ensures.1))
