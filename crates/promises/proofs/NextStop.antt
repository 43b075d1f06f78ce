-- `next_stop`: what a step hands out.
use contract.Lifetimes.{Lfts}
use Rattle.promises.specs.Law.{Coincide, coincide, answer}
use Rattle.next_stop.proofs.next_stop.Reads as of_next_stop

pub next_stop : (κs : Lfts 5) (a : _) → Coincide (of_next_stop.Learnt κs a) answer
next_stop κs a = coincide (λ r e w. w.handed)
