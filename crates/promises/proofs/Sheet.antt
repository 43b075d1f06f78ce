-- `sheet`: a sheet opened and edited.
use contract.Lifetimes.{Lfts}
use Rattle.promises.proofs.Parts.{rows_of, counts_of, marks_of, positions_of, channels_of, ramp_positions, ramp_channels}
use Rattle.promises.specs.Law.{Coincide, coincide, ◌with◌, both}
use Rattle.sheet.proofs.open.Reads as of_open
use Rattle.sheet.proofs.edit.Reads as of_edit

-- the answer, the record and both outputs
pub open_sheet : (κs : Lfts 7) (a : _) → Coincide (of_open.Learnt κs a) (λ r e. r with e.1.1.1.1.0.now with e.1.1.1.1.1.0.now with e.1.1.1.1.1.1.0.now with e.1.1.1.1.1.1.1.0.now with e.1.1.1.1.1.1.1.1.0.now)
open_sheet κs a = coincide (λ r e w. both w.answer (both (rows_of w.left) (both (counts_of w.left) (both (marks_of w.left) (both (positions_of w.output) (channels_of w.output))))))

-- the answer, the ramp, the record and both outputs
pub edit_sheet : (κs : Lfts 8) (a : _) → Coincide (of_edit.Learnt κs a) (λ r e. r with e.1.0.now with e.1.1.0.now with e.1.1.1.1.1.1.1.1.0.now with e.1.1.1.1.1.1.1.1.1.0.now with e.1.1.1.1.1.1.1.1.1.1.0.now with e.1.1.1.1.1.1.1.1.1.1.1.0.now with e.1.1.1.1.1.1.1.1.1.1.1.1.0.now)
edit_sheet κs a = coincide (λ r e w. both w.answer (both (ramp_positions w.ramp) (both (ramp_channels w.ramp) (both (rows_of w.left) (both (counts_of w.left) (both (marks_of w.left) (both (positions_of w.output) (channels_of w.output))))))))
