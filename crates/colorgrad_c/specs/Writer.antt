-- What the writer answers and tells, and what it leaves.
use Rattle.std.specs.Prelude.{ℕ, ◌≡◌, List, [], ◌∷◌, length, Float}
use Rattle.stops.specs.Lent.{Change}
use Rattle.ggr_writing.specs.File.{FileWritten, file_written_of, write_answer_of, number_of_write_answer, bytes_of_write_answer, left_in}
use Rattle.colorgrad_c.specs.plain.Telling.{telling, Reply}

-- of what is written, how many bytes; and of a list
pub record ShowsText (o : FileWritten) (out : Change (List ℕ)) (r : Reply (List ℕ)) : Type 0 where
  pub number : r.number ≡ number_of_write_answer (write_answer_of o)
  pub told : r.told.exit ≡ telling (bytes_of_write_answer (write_answer_of o) ∷ []) r.told.entry
  pub left : out.exit ≡ left_in o out.entry

abbrev pub ShowsWritten : List Float → List Float → Change (List ℕ) → Reply (List ℕ) → Type 0
ShowsWritten ps cs out = ShowsText (file_written_of (length out.entry) ps cs) out
