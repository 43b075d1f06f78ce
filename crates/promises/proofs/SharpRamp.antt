-- `sharp_ramp`: building a sharp ramp.
use contract.Lifetimes.{Lfts}
use Rattle.promises.specs.Law.{Coincide, coincide, ◌with◌, both}
use Rattle.sharp_ramp.proofs.build.Reads as of_build

-- with both lent outputs
pub build : (κs : Lfts 3) (a : _) → Coincide (of_build.Learnt κs a) (λ r e. r with e.1.1.1.1.0.now with e.1.1.1.1.1.0.now)
build κs a = coincide (λ r e w. both w.answer (both w.positions w.channels))
