-- `curve`: the factor of a curved segment, by its definition.
use contract.Lifetimes.{Lfts}
use Rattle.promises.specs.Law.{Coincide, coincide, answer}
use Rattle.curve.proofs.factor.Reads as of_factor

pub factor : (κs : Lfts 0) (a : _) → Coincide (of_factor.Learnt κs a) answer
factor κs a = coincide (λ r e w. w)
