-- `within`: the hold, and lists within it.
use contract.Lifetimes.{Lfts}
use Rattle.promises.proofs.Parts.{rows_of, counts_of, marks_of, positions_of, channels_of}
use Rattle.promises.specs.Law.{Coincide, coincide, answer, ◌with◌, both}
use Rattle.within.proofs.hold_of.Reads as of_hold_of
use Rattle.within.proofs.thin_within.Reads as of_thin_within
use Rattle.within.proofs.flatten_within.Reads as of_flatten_within

pub hold_of : (κs : Lfts 0) (a : _) → Coincide (of_hold_of.Learnt κs a) answer
hold_of κs a = coincide (λ r e w. w)

-- the answer and both outputs
pub thin_within : (κs : Lfts 7) (a : _) → Coincide (of_thin_within.Learnt κs a) (λ r e. r with e.1.1.1.1.1.1.0.now with e.1.1.1.1.1.1.1.0.now)
thin_within κs a = coincide (λ r e w. both w.told.answer (both (positions_of w.output) (channels_of w.output)))

-- the answer, the record and both outputs
pub flatten_within : (κs : Lfts 7) (a : _) → Coincide (of_flatten_within.Learnt κs a) (λ r e. r with e.1.1.1.0.now with e.1.1.1.1.0.now with e.1.1.1.1.1.0.now with e.1.1.1.1.1.1.0.now with e.1.1.1.1.1.1.1.0.now)
flatten_within κs a = coincide (λ r e w. both w.told.answer (both (rows_of w.left) (both (counts_of w.left) (both (marks_of w.left) (both (positions_of w.output) (channels_of w.output))))))
