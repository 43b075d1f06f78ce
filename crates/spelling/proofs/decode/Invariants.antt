-- `decode` meets its contract: what is left, put after what is there, makes the whole. Assumes nothing.
use Rattle.spelling.specs.Spelling.{meant}
use Rattle.spelling.proofs.Puts.{Putting}
use Rattle.spelling.proofs.decode.Given as goal

abbrev pub invariant-loop-b : goal.invariant-loop-b
invariant-loop-b l = Putting meant l.initial.buf 0 l.s l.buf l.n l.b-index
