-- `paint`: the colour at a point, and at many.
use contract.Lifetimes.{Lfts}
use Rattle.promises.specs.Law.{Coincide, coincide, answer, ◌with◌, both}
use Rattle.paint.proofs.at.Reads as of_at
use Rattle.paint.proofs.paint.Reads as of_paint

pub at : (κs : Lfts 2) (a : _) → Coincide (of_at.Learnt κs a) answer
at κs a = coincide (λ r e w. w.answer)

-- the answer and the lent output
pub paint : (κs : Lfts 4) (a : _) → Coincide (of_paint.Learnt κs a) (λ r e. r with e.1.1.0.now)
paint κs a = coincide (λ r e w. both w.answer w.contents)
