-- `apart`: what is told of the depths of a list, and the byte of each.
use contract.Lifetimes.{Lfts}
use Rattle.promises.specs.Law.{Coincide, coincide, ◌with◌, both}
use Rattle.apart.proofs.apart.Reads as of_apart

-- the answer and the lent bytes
pub apart : (κs : Lfts 6) (a : _) → Coincide (of_apart.Learnt κs a) (λ r e. r with e.1.1.1.1.1.1.0.now)
apart κs a = coincide (λ r e w. both w.answer w.bytes)
