-- `sharp::pair_colour` meets its contract: flat at an even lower index, else smoothstep. Assumes nothing.
use mathlib.Core.Path.{◌∙◌}
use borrow.Author.Tests.{eq-eqb, ne_eqb}
use Rattle.blend.specs.Pair.{sharp_pair}
use Rattle.blend.proofs.sharp.pair_colour.Goals as goal

pub returns-then-lower-eq0 : goal.returns-then-lower-eq0
unfolding sharp_pair
returns-then-lower-eq0 c = simp (eq-eqb _ 0 c.if-lower-eq0.true)

pub returns-else-lower-eq0 : goal.returns-else-lower-eq0
unfolding sharp_pair
returns-else-lower-eq0 c = c.pair_colour.ensures ∙ simp (ne_eqb _ 0 c.if-lower-eq0.false)
