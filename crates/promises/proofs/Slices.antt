-- `slices`: what a store leaves.
use contract.Lifetimes.{Lfts}
use Rattle.promises.specs.Law.{Coincide, coincide}
use Rattle.slices.proofs.zero_from.Reads as of_zero_from
use Rattle.slices.proofs.zero_bytes.Reads as of_zero_bytes
use Rattle.slices.proofs.put.Reads as of_put

pub zero_from : (κs : Lfts 1) (a : _) → Coincide (of_zero_from.Learnt κs a) (λ r e. e.0.now)
zero_from κs a = coincide (λ r e w. w)

pub zero_bytes : (κs : Lfts 1) (a : _) → Coincide (of_zero_bytes.Learnt κs a) (λ r e. e.0.now)
zero_bytes κs a = coincide (λ r e w. w)

pub put : (κs : Lfts 1) (a : _) → Coincide (of_put.Learnt κs a) (λ r e. e.0.now)
put κs a = coincide (λ r e w. w)
