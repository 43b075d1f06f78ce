-- `hsv`: colours mixed along the hue circle, and an end converted there and back, by their definitions.
use contract.Lifetimes.{Lfts}
use Rattle.promises.specs.Law.{Coincide, coincide, answer}
use Rattle.hsv.proofs.there_and_back.Reads as of_there_and_back
use Rattle.hsv.proofs.counter_clockwise.Reads as of_counter_clockwise
use Rattle.hsv.proofs.clockwise.Reads as of_clockwise

pub there_and_back : (κs : Lfts 0) (a : _) → Coincide (of_there_and_back.Learnt κs a) answer
there_and_back κs a = coincide (λ r e w. w)

pub counter_clockwise : (κs : Lfts 0) (a : _) → Coincide (of_counter_clockwise.Learnt κs a) answer
counter_clockwise κs a = coincide (λ r e w. w)

pub clockwise : (κs : Lfts 0) (a : _) → Coincide (of_clockwise.Learnt κs a) answer
clockwise κs a = coincide (λ r e w. w)
