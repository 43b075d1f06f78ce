-- `ggr`: reading a file, and its name, by either set of rules.
use contract.Lifetimes.{Lfts}
use Rattle.promises.specs.Law.{Coincide, coincide, ◌with◌, both}
use Rattle.promises.proofs.Segment.{positions_of, channels_of, codes_of}
use Rattle.ggr.proofs.read.Reads as of_read
use Rattle.ggr.proofs.read_saved.Reads as of_read_saved
use Rattle.ggr.proofs.name.Reads as of_name
use Rattle.ggr.proofs.name_saved.Reads as of_name_saved

-- the answer and all three lent outputs
pub read : (κs : Lfts 4) (a : _) → Coincide (of_read.Learnt κs a) (λ r e. r with e.1.1.1.0.now with e.1.1.1.1.0.now with e.1.1.1.1.1.0.now)
read κs a = coincide (λ r e w. both w.answer (both (positions_of w.left) (both (channels_of w.left) (codes_of w.left))))

pub read_saved : (κs : Lfts 4) (a : _) → Coincide (of_read_saved.Learnt κs a) (λ r e. r with e.1.1.1.0.now with e.1.1.1.1.0.now with e.1.1.1.1.1.0.now)
read_saved κs a = coincide (λ r e w. both w.answer (both (positions_of w.left) (both (channels_of w.left) (codes_of w.left))))

-- a part of the lent text, by its bytes
pub name : (κs : Lfts 1) (a : _) → Coincide (of_name.Learnt κs a) (λ r e. r.now)
name κs a = coincide (λ r e w. w)

pub name_saved : (κs : Lfts 1) (a : _) → Coincide (of_name_saved.Learnt κs a) (λ r e. r.now)
name_saved κs a = coincide (λ r e w. w)
