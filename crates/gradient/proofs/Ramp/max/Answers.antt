-- `Ramp::max` meets its contract: by the kind. Assumes nothing.
use mathlib.Core.Path.{sym, ◌∙◌, ap}
use Prim.Native.Nat.{ℕ}
use Rattle.stops.specs.Stops.{pos_at}
use Rattle.gradient.specs.Ramp.{max_in}
use Rattle.gradient.proofs.Ramp.max.Goals as goal

pub returns-then-is_gimp : goal.returns-then-is_gimp
unfolding max_in
returns-then-is_gimp c = simp (sym c.is_gimp.ensures ∙ c.if-is_gimp.true)

pub returns-else-is_gimp : goal.returns-else-is_gimp
unfolding max_in
returns-else-is_gimp c = c.item.ensures ∙ ap (λ (i : ℕ). pos_at c.args.self.now.positions.now i) c.less.ensures ∙ simp (sym c.is_gimp.ensures ∙ c.if-is_gimp.false)
