-- `weighed`: the points at which a list is weighed.
use contract.Lifetimes.{Lfts}
use Rattle.promises.specs.Law.{Coincide, coincide, ◌with◌, both}
use Rattle.weighed.proofs.gather.Reads as of_gather

-- how many points there are, and both arrays
pub gather : (κs : Lfts 5) (a : _) → Coincide (of_gather.Learnt κs a) (λ r e. r with e.1.1.1.1.1.0.now with e.1.1.1.1.1.1.0.now)
gather κs a = coincide (λ r e w. both w.many (both w.times w.marks))
