-- `writing`, `entries` and `desk`: the tool.
use contract.Lifetimes.{Lfts}
use Rattle.promises.specs.Law.{Coincide, coincide, ◌with◌, both}
use Rattle.writing.proofs.write.Reads as of_write
use Rattle.entries.proofs.reading.read.Reads as of_read
use Rattle.desk.proofs.desk.Reads as of_desk
use Rattle.desk.proofs.print.Reads as of_print

-- how long the text is, and what the output holds
pub write : (κs : Lfts 3) (a : _) → Coincide (of_write.Learnt κs a) (λ r e. r with e.0.now)
write κs a = coincide (λ r e w. both w.next w.written)

-- the answer, and the stops in what is lent
pub read : (κs : Lfts 3) (a : _) → Coincide (of_read.Learnt κs a) (λ r e. r with e.1.0.now with e.1.1.0.now)
read κs a = coincide (λ r e w. both w.answer (both w.positions w.channels))

-- how many bytes are printed, and what the output holds
pub desk : (κs : Lfts 2) (a : _) → Coincide (of_desk.Learnt κs a) (λ r e. r with e.1.0.now)
desk κs a = coincide (λ r e w. both w.answer w.contents)

-- the same in an output that holds every answer
pub print : (κs : Lfts 2) (a : _) → Coincide (of_print.Learnt κs a) (λ r e. r with e.1.0.now)
print κs a = coincide (λ r e w. both w.count w.contents)
