-- `sine`: a factor bent, by its definition.
use contract.Lifetimes.{Lfts}
use Rattle.promises.specs.Law.{Coincide, coincide, answer}
use Rattle.sine.proofs.wave.Reads as of_wave

pub wave : (κs : Lfts 0) (a : _) → Coincide (of_wave.Learnt κs a) answer
wave κs a = coincide (λ r e w. w)
