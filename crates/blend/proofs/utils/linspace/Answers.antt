-- `utils::linspace` meets its contract: each branch of the code is a branch of the definition. Assumes nothing.
use borrow.Author.Tests.{eq-eqb, ne_eqb}
use Rattle.blend.specs.Points.{linspace_at}
use Rattle.blend.proofs.utils.linspace.Goals as goal

pub returns-then-n-eq1 : goal.returns-then-n-eq1
unfolding linspace_at
returns-then-n-eq1 c = simp (eq-eqb c.args.n 1 c.if-n-eq1.true)

pub returns-else-n-eq1 : goal.returns-else-n-eq1
unfolding linspace_at
returns-else-n-eq1 c = simp (ne_eqb c.args.n 1 c.if-n-eq1.false)
