-- `places`: counts, places and points of a record.
use contract.Lifetimes.{Lfts}
use Rattle.promises.specs.Law.{Coincide, coincide, answer}
use Rattle.places.proofs.count_at.Reads as of_count_at
use Rattle.places.proofs.next_place.Reads as of_next_place
use Rattle.places.proofs.point_at.Reads as of_point_at

pub count_at : (κs : Lfts 1) (a : _) → Coincide (of_count_at.Learnt κs a) answer
count_at κs a = coincide (λ r e w. w)

pub next_place : (κs : Lfts 1) (a : _) → Coincide (of_next_place.Learnt κs a) answer
next_place κs a = coincide (λ r e w. w)

pub point_at : (κs : Lfts 1) (a : _) → Coincide (of_point_at.Learnt κs a) answer
point_at κs a = coincide (λ r e w. w)
