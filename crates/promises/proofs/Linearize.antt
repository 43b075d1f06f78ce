-- `records` and `linearize`: the check of a record, answers and lists.
use contract.Lifetimes.{Lfts}
use Rattle.promises.proofs.Parts.{rows_of, counts_of, marks_of, positions_of, channels_of}
use Rattle.promises.specs.Law.{Coincide, coincide, answer, ◌with◌, both}
use Rattle.linearize.proofs.thin.Reads as of_thin
use Rattle.linearize.proofs.after.Reads as of_after
use Rattle.linearize.proofs.relist.Reads as of_relist
use Rattle.linearize.proofs.flatten.Reads as of_flatten
use Rattle.records.proofs.check_thin.Reads as of_check_thin
use Rattle.records.proofs.check_counts.Reads as of_check_counts

pub check_thin : (κs : Lfts 5) (a : _) → Coincide (of_check_thin.Learnt κs a) answer
check_thin κs a = coincide (λ r e w. w.answer)

pub check_counts : (κs : Lfts 1) (a : _) → Coincide (of_check_counts.Learnt κs a) answer
check_counts κs a = coincide (λ r e w. w)

-- the answer and both outputs
pub thin : (κs : Lfts 7) (a : _) → Coincide (of_thin.Learnt κs a) (λ r e. r with e.1.1.1.1.1.0.now with e.1.1.1.1.1.1.0.now)
thin κs a = coincide (λ r e w. both w.told.answer (both (positions_of w.output) (channels_of w.output)))

-- the answer, the record and both outputs
pub relist : (κs : Lfts 7) (a : _) → Coincide (of_relist.Learnt κs a) (λ r e. r with e.1.1.1.0.now with e.1.1.1.1.0.now with e.1.1.1.1.1.0.now with e.1.1.1.1.1.1.0.now with e.1.1.1.1.1.1.1.0.now)
relist κs a = coincide (λ r e w. both w.told.answer (both (rows_of w.left) (both (counts_of w.left) (both (marks_of w.left) (both (positions_of w.output) (channels_of w.output))))))

pub flatten : (κs : Lfts 7) (a : _) → Coincide (of_flatten.Learnt κs a) (λ r e. r with e.1.1.0.now with e.1.1.1.0.now with e.1.1.1.1.0.now with e.1.1.1.1.1.0.now with e.1.1.1.1.1.1.0.now)
flatten κs a = coincide (λ r e w. both w.told.answer (both (rows_of w.left) (both (counts_of w.left) (both (marks_of w.left) (both (positions_of w.output) (channels_of w.output))))))

pub after : (κs : Lfts 0) (a : _) → Coincide (of_after.Learnt κs a) answer
after κs a = coincide (λ r e w. w)
