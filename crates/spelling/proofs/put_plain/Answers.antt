-- `put_plain` meets its contract: the mark, or the one byte. Assumes nothing.
use mathlib.Core.Path.{◌∙◌}
use Rattle.spelling.proofs.Puts.{put_one, place_one, meant_mark, meant_plain}
use Rattle.spelling.proofs.put_plain.Goals as goal

pub returns-then-b-eq64 : goal.returns-then-b-eq64
returns-then-b-eq64 c = rw (meant_mark _ c.if-b-eq64.true) c.append.ensures

pub returns-else-b-eq64 : goal.returns-else-b-eq64
returns-else-b-eq64 c = rw (meant_plain _ c.if-b-eq64.false, ← c.plain.ensures) (c.put.ensures.0 ∙ put_one _ _ _, c.put.ensures.1 ∙ place_one _ _ _)
