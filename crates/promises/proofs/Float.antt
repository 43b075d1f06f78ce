-- `float`: an answer is its definition's.
use contract.Lifetimes.{Lfts}
use Rattle.promises.specs.Law.{Coincide, coincide, answer}
use Rattle.float.proofs.is_finite.Reads as of_is_finite
use Rattle.float.proofs.magnitude.Reads as of_magnitude
use Rattle.float.proofs.clamp.Reads as of_clamp
use Rattle.float.proofs.whole.Reads as of_whole
use Rattle.float.proofs.from_whole.Reads as of_from_whole
use Rattle.float.proofs.from_bits.Reads as of_from_bits
use Rattle.float.proofs.to_bits.Reads as of_to_bits
use Rattle.float.proofs.above.Reads as of_above
use Rattle.float.proofs.below.Reads as of_below

pub is_finite : (κs : Lfts 0) (a : _) → Coincide (of_is_finite.Learnt κs a) answer
is_finite κs a = coincide (λ r e w. w)

pub magnitude : (κs : Lfts 0) (a : _) → Coincide (of_magnitude.Learnt κs a) answer
magnitude κs a = coincide (λ r e w. w)

pub clamp : (κs : Lfts 0) (a : _) → Coincide (of_clamp.Learnt κs a) answer
clamp κs a = coincide (λ r e w. w)

pub whole : (κs : Lfts 0) (a : _) → Coincide (of_whole.Learnt κs a) answer
whole κs a = coincide (λ r e w. w)

pub from_whole : (κs : Lfts 0) (a : _) → Coincide (of_from_whole.Learnt κs a) answer
from_whole κs a = coincide (λ r e w. w)

pub from_bits : (κs : Lfts 0) (a : _) → Coincide (of_from_bits.Learnt κs a) answer
from_bits κs a = coincide (λ r e w. w)

pub to_bits : (κs : Lfts 0) (a : _) → Coincide (of_to_bits.Learnt κs a) answer
to_bits κs a = coincide (λ r e w. w)

pub above : (κs : Lfts 0) (a : _) → Coincide (of_above.Learnt κs a) answer
above κs a = coincide (λ r e w. w)

pub below : (κs : Lfts 0) (a : _) → Coincide (of_below.Learnt κs a) answer
below κs a = coincide (λ r e w. w)
