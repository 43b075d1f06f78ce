-- `wholeroot`: the whole number nearest to a root, by its definition.
use contract.Lifetimes.{Lfts}
use Rattle.promises.specs.Law.{Coincide, coincide, answer}
use Rattle.wholeroot.proofs.nearest_root.Reads as of_nearest_root

pub nearest_root : (κs : Lfts 0) (a : _) → Coincide (of_nearest_root.Learnt κs a) answer
nearest_root κs a = coincide (λ r e w. w)
