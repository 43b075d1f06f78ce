-- `numerals`: which numbers can be written, and a number as text: all 18 bytes, and how many of them are its text.
use contract.Lifetimes.{Lfts}
use Rattle.promises.specs.Law.{Coincide, coincide, answer, ◌with◌, both}
use Rattle.numerals.proofs.is_writable.Reads as of_is_writable
use Rattle.numerals.proofs.write.Reads as of_write

pub is_writable : (κs : Lfts 0) (a : _) → Coincide (of_is_writable.Learnt κs a) answer
is_writable κs a = coincide (λ r e w. w)

pub write : (κs : Lfts 0) (a : _) → Coincide (of_write.Learnt κs a) (λ r e. r.bytes with r.len)
write κs a = coincide (λ r e w. both w.is w.long)
