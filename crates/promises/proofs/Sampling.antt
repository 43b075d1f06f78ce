-- `difference` and `sampling`: how far apart two colours are, and records.
use contract.Lifetimes.{Lfts}
use Rattle.sqrt.proofs.Theorems.{cutoff_unique}
use Rattle.sampling.specs.Constants.{threshold_of}
use Rattle.promises.proofs.Parts.{rows_of, counts_of, marks_of}
use Rattle.promises.specs.Law.{Coincide, coincide, answer, ◌with◌, both}
use Rattle.difference.proofs.stands_out.Reads as of_stands_out
use Rattle.difference.proofs.distance.Reads as of_distance
use Rattle.difference.proofs.is_near.Reads as of_is_near
use Rattle.sampling.proofs.Sampler.new.Reads as of_new
use Rattle.sampling.proofs.cutoff_of.Reads as of_cutoff_of
use Rattle.sampling.proofs.check_sample.Reads as of_check_sample
use Rattle.sampling.proofs.sample.Reads as of_sample
use Rattle.sampling.proofs.resample.Reads as of_resample
use Rattle.sampling.proofs.cells.edge.Reads as of_edge
use Rattle.sampling.proofs.cells.evaluate.Reads as of_evaluate
use Rattle.sampling.proofs.cells.placed.Reads as of_placed
use Rattle.sampling.proofs.cells.drawn_at.Reads as of_drawn_at
use Rattle.sampling.proofs.cells.evaluate_along.Reads as of_evaluate_along

pub stands_out : (κs : Lfts 0) (a : _) → Coincide (of_stands_out.Learnt κs a) answer
stands_out κs a = coincide (λ r e w. w)

pub distance : (κs : Lfts 0) (a : _) → Coincide (of_distance.Learnt κs a) answer
distance κs a = coincide (λ r e w. w)

pub is_near : (κs : Lfts 0) (a : _) → Coincide (of_is_near.Learnt κs a) answer
is_near κs a = coincide (λ r e w. w)

-- a struct of one field
pub new : (κs : Lfts 0) (a : _) → Coincide (of_new.Learnt κs a) (λ r e. r.threshold)
new κs a = coincide (λ r e w. w)

pub cutoff_of : (κs : Lfts 0) (a : _) → Coincide (of_cutoff_of.Learnt κs a) answer
cutoff_of κs a = λ r s e f. cutoff_unique (threshold_of a.0) r s

pub check_sample : (κs : Lfts 2) (a : _) → Coincide (of_check_sample.Learnt κs a) answer
check_sample κs a = coincide (λ r e w. w.answer)

-- the answer and the record
pub sample : (κs : Lfts 5) (a : _) → Coincide (of_sample.Learnt κs a) (λ r e. r with e.1.1.0.now with e.1.1.1.0.now with e.1.1.1.1.0.now)
sample κs a = coincide (λ r e w. both w.answer (both (rows_of w.left) (both (counts_of w.left) (marks_of w.left))))

pub resample : (κs : Lfts 5) (a : _) → Coincide (of_resample.Learnt κs a) (λ r e. r with e.1.1.1.0.now with e.1.1.1.1.0.now with e.1.1.1.1.1.0.now)
resample κs a = coincide (λ r e w. both w.answer (both (rows_of w.left) (both (counts_of w.left) (marks_of w.left))))

pub edge : (κs : Lfts 0) (a : _) → Coincide (of_edge.Learnt κs a) answer
edge κs a = coincide (λ r e w. w)

pub evaluate : (κs : Lfts 2) (a : _) → Coincide (of_evaluate.Learnt κs a) answer
evaluate κs a = coincide (λ r e w. w)

pub placed : (κs : Lfts 2) (a : _) → Coincide (of_placed.Learnt κs a) answer
placed κs a = coincide (λ r e w. w)

-- the point and the pair in hand
pub drawn_at : (κs : Lfts 3) (a : _) → Coincide (of_drawn_at.Learnt κs a) (λ r e. r with e.1.1.1.1.1.0.now)
drawn_at κs a = coincide (λ r e w. both w.point w.drawn)

pub evaluate_along : (κs : Lfts 3) (a : _) → Coincide (of_evaluate_along.Learnt κs a) (λ r e. r with e.1.1.1.0.now)
evaluate_along κs a = coincide (λ r e w. both w.point w.drawn)
