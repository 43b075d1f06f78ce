-- `ggr_writing`, and its calls for C and Rust: the answer and the lent output.
use contract.Lifetimes.{Lfts}
use Rattle.promises.specs.Law.{Coincide, coincide, ◌with◌, both}
use Rattle.ggr_writing.proofs.write.Reads as of_write
use Rattle.colorgrad_c.proofs.writer.colorgrad_write_ggr_told.Reads as of_write_ggr
use Rattle.colorgrad_c.proofs.writer.colorgrad_numeral.Reads as of_numeral

pub write : (κs : Lfts 3) (a : _) → Coincide (of_write.Learnt κs a) (λ r e. r with e.1.1.0.now)
write κs a = coincide (λ r e w. both w.answer w.left)

pub write_ggr : (κs : Lfts 4) (a : _) → Coincide (of_write_ggr.Learnt κs a) (λ r e. r with e.1.1.1.0.now with e.1.1.0.now)
write_ggr κs a = coincide (λ r e w. both w.number (both w.told w.left))

pub numeral : (κs : Lfts 1) (a : _) → Coincide (of_numeral.Learnt κs a) (λ r e. r with e.1.0.now)
numeral κs a = coincide (λ r e w. both w.0 w.1)
