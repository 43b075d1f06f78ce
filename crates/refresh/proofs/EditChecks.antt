-- The check of a refresh, and what a refresh that passes it may lean on. Assumes nothing.
use mathlib.Core.Path.{◌≡◌, ap, ◌∙◌}
use Prim.Native.Nat.{ℕ, ◌<◌}
use lib.ListN.{length}
use lib.Ieee.{Float}
use Rattle.stops.specs.Lent.{Ramp}
use Rattle.stops.specs.declared.Checked.{Checked}
use Rattle.stops.specs.declared.Checked.TheVariants as checked
use Rattle.gradient.specs.Ramp.{check_of}
use Rattle.sampling.specs.Lent.{Held}
use Rattle.sampling.specs.Constants.{cells}
use Rattle.sampling.specs.Sampling.{and_then, marks_of, sample_check, held_check}
use Rattle.records.specs.Fitness.{thin_check}
use Rattle.sampling.specs.Anew.{kept_by}
use Rattle.sampling.proofs.Checks.{passes_both, ramp_fine}
use Rattle.records.proofs.Passing.{sample_fine, marks_own}
use Rattle.refresh.proofs.reach.Kept.{checked_kept}
use Rattle.refresh.specs.editing.Edited.{edited}
use Rattle.refresh.specs.editing.Rules.{edit_check}
use Rattle.refresh.specs.editing.Reached.{stretch_of, cells_kept, clear_cell}
use Rattle.refresh.specs.declared.editing.Edit.{Edit}
use Rattle.refresh.specs.editing.Sound.{Sound}
use Rattle.refresh.proofs.editing.EditSound.{edit_sound}
use Rattle.refresh.specs.RefreshDesk.{refresh_check}

-- ---- the check of a refresh
module _ (ramp : Ramp) (e : Edit) (asked : Float) (was : Held) where
  pub thin_refuses : (m : ℕ) → thin_check ramp asked was ≡ checked.Refused m → refresh_check ramp e asked was ≡ checked.Refused m
  unfolding refresh_check
  thin_refuses m h = ap (λ (x : Checked). and_then x (edit_check ramp e)) h

  pub by_edit : thin_check ramp asked was ≡ checked.Fine → {r : Checked} → edit_check ramp e ≡ r → refresh_check ramp e asked was ≡ r
  unfolding refresh_check
  by_edit h k = ap (λ (x : Checked). and_then x (edit_check ramp e)) h ∙ k

  pub thinned_fine : thin_check ramp asked was ≡ checked.Fine → check_of ramp ≡ checked.Fine
  thinned_fine h = ramp_fine ramp (length was.rows) (length was.counts) (length was.marks) (sample_fine ramp asked was h)

-- ---- the changed ramp
module _ (ramp : Ramp) (e : Edit) (ok : Sound ramp e) where
  -- it may be sampled where the ramp may be
  pub edited_sampling : (was : Held) → held_check ramp was ≡ checked.Fine → held_check (edited ramp e) was ≡ checked.Fine
  unfolding sample_check
  edited_sampling was h = rw (ok.still_fine, ok.same_min, ok.same_max) (rw (ramp_fine ramp (length was.rows) (length was.counts) (length was.marks) h) at h)

  -- and has the same words
  pub same_marks : (asked : Float) → marks_of (edited ramp e) asked ≡ marks_of ramp asked
  same_marks asked = rw (ok.same_min, ok.same_max)

-- ---- what a check that is passed tells
module _ (ramp : Ramp) (e : Edit) (asked : Float) (was : Held) (h : refresh_check ramp e asked was ≡ checked.Fine) where
  both : (thin_check ramp asked was ≡ checked.Fine) × (edit_check ramp e ≡ checked.Fine)
  unfolding refresh_check
  both = passes_both (thin_check ramp asked was) (edit_check ramp e) h

  pub thin_fine : thin_check ramp asked was ≡ checked.Fine
  thin_fine = both.0

  pub sampled : held_check ramp was ≡ checked.Fine
  sampled = sample_fine ramp asked was thin_fine

  -- the record's words are the call's own
  pub own_words : was.marks ≡ marks_of ramp asked
  own_words = marks_own ramp asked was thin_fine

  pub allowed : Sound ramp e
  allowed = edit_sound ramp e (thinned_fine ramp e asked was thin_fine) both.1

  -- the cells that the code keeps are those that are clear
  pub kept : (i : ℕ) → i < cells → kept_by (cells_kept ramp.kind ramp.positions e) i ≡ clear_cell ramp e i
  unfolding cells_kept
  kept i l = checked_kept ramp was (stretch_of ramp.kind ramp.positions e) sampled i l
