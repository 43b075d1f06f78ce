-- `decimal::quotient::scaled` meets its contract: five reaches 2 ^ 39, which is half of what num asks for at most. Assumes nothing.
use native.Mathlib.Omega.{arith}
use Rattle.decimal.proofs.Scale.{shifted_is, scaled_is}
use Rattle.decimal.proofs.quotient.scaled.Goals as goal

pub fitted-by-requires : goal.fitted-by-requires
fitted-by-requires c = let d = c.doublings-up.ensures in let e = shifted_is _ _ d in (omega (arith, d.lo), omega (arith, d.hi))

pub overflow_add-result : goal.overflow_add-result
overflow_add-result c = let d = c.doublings-up.ensures.few in let o = c.fitted-by.ensures.once in record { fits = omega arith }

pub returns : goal.returns
returns c = scaled_is _ _ c.doublings-up.ensures _ _ _ c.fitted-by.ensures
