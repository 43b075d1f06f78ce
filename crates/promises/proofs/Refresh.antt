-- `refresh`: what an edit keeps, the ramp with it made, the record after it, and its list.
use contract.Lifetimes.{Lfts}
use Rattle.promises.proofs.Parts.{rows_of, counts_of, marks_of, positions_of, channels_of}
use Rattle.promises.specs.Law.{Coincide, coincide, answer, ◌with◌, both}
use Rattle.refresh.proofs.editing.kept.Reads as of_kept
use Rattle.refresh.proofs.editing.copy.copy.Reads as of_copy
use Rattle.refresh.proofs.refresh.Reads as of_refresh
use Rattle.refresh.proofs.refresh_list.Reads as of_refresh_list

pub kept : (κs : Lfts 2) (a : _) → Coincide (of_kept.Learnt κs a) answer
kept κs a = coincide (λ r e w. w)

-- the answer and both outputs
pub copy : (κs : Lfts 4) (a : _) → Coincide (of_copy.Learnt κs a) (λ r e. r with e.1.1.0.now with e.1.1.1.0.now)
copy κs a = coincide (λ r e w. both w.answer (both w.written w.coloured))

-- the answer and the record
pub refresh : (κs : Lfts 5) (a : _) → Coincide (of_refresh.Learnt κs a) (λ r e. r with e.1.1.1.0.now with e.1.1.1.1.0.now with e.1.1.1.1.1.0.now)
refresh κs a = coincide (λ r e w. both w.answer (both (rows_of w.left) (both (counts_of w.left) (marks_of w.left))))

-- the answer, the record and both outputs
pub refresh_list : (κs : Lfts 7) (a : _) → Coincide (of_refresh_list.Learnt κs a) (λ r e. r with e.1.1.1.0.now with e.1.1.1.1.0.now with e.1.1.1.1.1.0.now with e.1.1.1.1.1.1.0.now with e.1.1.1.1.1.1.1.0.now)
refresh_list κs a = coincide (λ r e w. both w.told.answer (both (rows_of w.left) (both (counts_of w.left) (both (marks_of w.left) (both (positions_of w.output) (channels_of w.output))))))
