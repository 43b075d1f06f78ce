-- `header`: the header of a GIMP file, its bytes, and the name in it.
use contract.Lifetimes.{Lfts}
use Rattle.promises.specs.Law.{Coincide, coincide, answer}
use Rattle.header.proofs.read_header.Reads as of_read_header
use Rattle.header.proofs.is_saved_head.Reads as of_is_saved_head
use Rattle.header.proofs.name_part.Reads as of_name_part

pub read_header : (κs : Lfts 1) (a : _) → Coincide (of_read_header.Learnt κs a) answer
read_header κs a = coincide (λ r e w. w.is)

pub is_saved_head : (κs : Lfts 1) (a : _) → Coincide (of_is_saved_head.Learnt κs a) answer
is_saved_head κs a = coincide (λ r e w. w)

-- a part of the lent text, by its bytes
pub name_part : (κs : Lfts 1) (a : _) → Coincide (of_name_part.Learnt κs a) (λ r e. r.now)
name_part κs a = coincide (λ r e w. w)
