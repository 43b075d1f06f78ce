-- `mids_outside` meets its contract: the midpoint, then each half, by what is left of the depth. Assumes nothing.
use mathlib.Core.Path.{refl, sym, ◌∙◌}
use Rattle.sampling.specs.Midpoints.{mid_of}
use Rattle.refresh.proofs.reach.Outer.{mid_inside, left_inside, left_outside}
use Rattle.refresh.proofs.reach.stretch.+mids_outside.Goals as goal
use Rattle.refresh.proofs.reach.stretch.+mids_outside.Goals.{then-outside, else-outside}

pub returns-then-mids_outside : goal.returns-then-mids_outside
unfolding mid_of
returns-then-mids_outside t c =
    elim c.if-outside.branch [
      | then-outside w ↦
          c.mids_outside-then-mids_outside.ensures
          ∙ left_outside _ _ _ _ refl (sym c.outside.ensures ∙ w.if-outside.true) _ c.if-left-eq0.false (sym w.mids_outside.ensures ∙ sym w.value-is ∙ c.if-mids_outside.true)
      | else-outside w ↦ cc
    ]

pub returns-else-mids_outside : goal.returns-else-mids_outside
unfolding mid_of
returns-else-mids_outside t c =
    c.if-mids_outside.false
    ∙ elim c.if-outside.branch [
      | then-outside w ↦
          left_inside _ _ _ _ refl (sym c.outside.ensures ∙ w.if-outside.true) _ c.if-left-eq0.false (sym w.mids_outside.ensures ∙ sym w.value-is ∙ c.if-mids_outside.false)
      | else-outside w ↦ mid_inside _ _ _ _ refl _ c.if-left-eq0.false (sym c.outside.ensures ∙ w.if-outside.false)
    ]
