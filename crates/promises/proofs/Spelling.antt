-- `spelling`: what two programs of the gate read by.
use contract.Lifetimes.{Lfts}
use Rattle.promises.specs.Law.{Coincide, coincide, answer, ◌with◌, both}
use Rattle.spelling.proofs.front.Reads as of_front
use Rattle.spelling.proofs.count.Reads as of_count
use Rattle.spelling.proofs.append.Reads as of_append
use Rattle.spelling.proofs.decode.Reads as of_decode

-- a part of the lent bytes
pub front : (κs : Lfts 1) (a : _) → Coincide (of_front.Learnt κs a) (λ r e. r.now)
front κs a = coincide (λ r e w. w)

pub count : (κs : Lfts 1) (a : _) → Coincide (of_count.Learnt κs a) answer
count κs a = coincide (λ r e w. w)

-- the place after the text, and what the buffer holds
pub append : (κs : Lfts 2) (a : _) → Coincide (of_append.Learnt κs a) (λ r e. r with e.0.now)
append κs a = coincide (λ r e w. both w.1 w.0)

pub decode : (κs : Lfts 2) (a : _) → Coincide (of_decode.Learnt κs a) (λ r e. r with e.0.now)
decode κs a = coincide (λ r e w. both w.1 w.0)
