-- `thinning`: the steps, the room and the counts.
use contract.Lifetimes.{Lfts}
use mathlib.Core.Path.{◌≡◌, ap}
use Rattle.thinning.specs.Walk.{Run}
use Rattle.promises.specs.Law.{Coincide, coincide, answer, ◌with◌, both}
use Rattle.thinning.proofs.sum.Reads as of_sum
use Rattle.thinning.proofs.room_of.Reads as of_room_of
use Rattle.thinning.proofs.emit.Reads as of_emit
use Rattle.thinning.proofs.step.Reads as of_step
use Rattle.thinning.proofs.weigh.Reads as of_weigh
use Rattle.thinning.proofs.stop_refusal.Reads as of_stop_refusal

-- the parts of a run
progress_of : {a b : Run} → a ≡ b → a.progress ≡ b.progress
progress_of w = ap (λ (r : Run). r.progress) w

places_of : {a b : Run} → a ≡ b → a.places ≡ b.places
places_of w = ap (λ (r : Run). r.places) w

colours_of : {a b : Run} → a ≡ b → a.colours ≡ b.colours
colours_of w = ap (λ (r : Run). r.colours) w

pub sum : (κs : Lfts 0) (a : _) → Coincide (of_sum.Learnt κs a) answer
sum κs a = coincide (λ r e w. w)

pub room_of : (κs : Lfts 0) (a : _) → Coincide (of_room_of.Learnt κs a) answer
room_of κs a = coincide (λ r e w. w)

pub stop_refusal : (κs : Lfts 0) (a : _) → Coincide (of_stop_refusal.Learnt κs a) answer
stop_refusal κs a = coincide (λ r e w. w)

pub weigh : (κs : Lfts 0) (a : _) → Coincide (of_weigh.Learnt κs a) answer
weigh κs a = coincide (λ r e w. w)

-- the progress and both outputs
pub emit : (κs : Lfts 2) (a : _) → Coincide (of_emit.Learnt κs a) (λ r e. r with e.1.1.1.0.now with e.1.1.1.1.0.now)
emit κs a = coincide (λ r e w. both (progress_of w) (both (places_of w) (colours_of w)))

pub step : (κs : Lfts 2) (a : _) → Coincide (of_step.Learnt κs a) (λ r e. r with e.1.1.1.1.1.0.now with e.1.1.1.1.1.1.0.now)
step κs a = coincide (λ r e w. both (progress_of w) (both (places_of w) (colours_of w)))
