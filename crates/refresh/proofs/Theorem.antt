-- The theorem: for every valid ramp that can be refreshed, threshold and edit, refreshing the record that a fresh sampling of the old ramp gives
-- equals the fresh sampling of the changed ramp; so the list of its points is the same. Assumes nothing.
use mathlib.Core.Path.{◌≡◌, refl, sym, ap, ◌∙◌}
use mathlib.Core.Bool.{true}
use Prim.Native.Nat.{ℕ}
use lib.ListN.{length}
use lib.Ieee.{Float}
use Rattle.stops.specs.Lent.{Ramp}
use Rattle.stops.specs.declared.Checked.{Checked}
use Rattle.stops.specs.declared.Checked.TheVariants as checked
use Rattle.gradient.specs.Ramp.{min_of, max_of, colour_of}
use Rattle.difference.specs.Difference.{differs}
use Rattle.sampling.specs.Constants.{threshold_of}
use Rattle.sampling.specs.Cells.{cell_row, cell_count, rows_of, counts_of}
use Rattle.sampling.specs.Lent.{Held, held_of}
use Rattle.sampling.specs.Sampling.{and_then, far_of, words_of, marks_of, held_check, fresh}
use Rattle.records.specs.Fitness.{marks_check, thin_check}
use Rattle.records.proofs.Marking.{marks_pass}
use Rattle.sampling.proofs.Checks.{record_lengths}
use Rattle.linearize.proofs.Checks.{ready_counts}
use Rattle.linearize.proofs.Records.{fresh_ready}
use Rattle.refresh.specs.reach.Stretch.{cell_clear}
use Rattle.refresh.specs.editing.Edited.{edited}
use Rattle.refresh.specs.editing.Rules.{edit_check}
use Rattle.refresh.specs.editing.Reached.{away}
use Rattle.refresh.specs.RefreshDesk.{refresh_check, renewed}
use Rattle.refresh.specs.declared.editing.Edit.{Edit}
use Rattle.refresh.proofs.Agree.{same_row, same_count, refreshed_rows, refreshed_counts}
use Rattle.refresh.specs.editing.Sound.{Sound}
use Rattle.refresh.proofs.EditChecks.{same_marks}

module _ (ramp : Ramp) (e : Edit) (ok : Sound ramp e) (asked : Float) where
  -- outside the stretch the two ramps agree
  pub agree : (t : Float) → away ramp e t ≡ true → colour_of ramp t ≡ colour_of (edited ramp e) t
  agree = ok.agree

  -- so every clear cell has one row and one count
  module _ (i : ℕ) (clear : cell_clear (away ramp e) (min_of ramp) (max_of ramp) i ≡ true) where
    pub clear_row : cell_row (colour_of ramp) (far_of asked) (min_of ramp) (max_of ramp) i ≡ cell_row (colour_of (edited ramp e)) (far_of asked) (min_of ramp) (max_of ramp) i
    clear_row = same_row (colour_of ramp) (colour_of (edited ramp e)) (far_of asked) (away ramp e) agree (min_of ramp) (max_of ramp) i clear

    pub clear_count : cell_count (colour_of ramp) (far_of asked) (min_of ramp) (max_of ramp) i ≡ cell_count (colour_of (edited ramp e)) (far_of asked) (min_of ramp) (max_of ramp) i
    clear_count = same_count (colour_of ramp) (colour_of (edited ramp e)) (far_of asked) (away ramp e) agree (min_of ramp) (max_of ramp) i clear

  -- refreshed is fresh
  pub fresh-renewed : renewed ramp e asked (fresh ramp asked) ≡ fresh (edited ramp e) asked
  unfolding renewed fresh
  fresh-renewed =
      rw (
        same_marks ramp e ok asked,
        ok.same_min,
        ok.same_max,
        refreshed_rows (colour_of ramp) (colour_of (edited ramp e)) (far_of asked) (away ramp e) agree (min_of ramp) (max_of ramp),
        refreshed_counts (colour_of ramp) (colour_of (edited ramp e)) (far_of asked) (away ramp e) agree (min_of ramp) (max_of ramp),
      )

-- a record that a sampling with `asked` left, and a refresh with `mine` whose edit passes: the words alone decide
module _ (ramp : Ramp) (e : Edit) (asked mine : Float) (was : Held) (fine : held_check ramp was ≡ checked.Fine) (edit : edit_check ramp e ≡ checked.Fine) where
  fresh_words : (fresh ramp asked).marks ≡ marks_of ramp asked
  unfolding fresh
  fresh_words = refl

  fresh_lengths : held_check ramp (fresh ramp asked) ≡ checked.Fine
  fresh_lengths =
      let r = fresh_ready ramp asked (fresh ramp asked) refl in
      let l = record_lengths ramp _ _ _ fine in
      rw (r.long ∙ sym l.long, r.many ∙ sym l.many, ap length fresh_words ∙ sym l.three) fine

  then_fine : (c : Checked) → and_then c checked.Fine ≡ c
  then_fine checked.Fine = refl
  then_fine (checked.Refused n) = refl

  pub words_decide : refresh_check ramp e mine (fresh ramp asked) ≡ marks_check (marks_of ramp mine) (marks_of ramp asked)
  unfolding refresh_check thin_check
  words_decide =
      rw (fresh_lengths, ready_counts _ _ (fresh_ready ramp asked (fresh ramp asked) refl), edit, fresh_words) (then_fine (marks_check (marks_of ramp mine) (marks_of ramp asked)))

-- with one threshold it passes
pub refresh_passes : (ramp : Ramp) (e : Edit) (asked : Float) (was : Held) → held_check ramp was ≡ checked.Fine → edit_check ramp e ≡ checked.Fine → refresh_check ramp e asked (fresh ramp asked) ≡ checked.Fine
refresh_passes ramp e asked was fine edit = words_decide ramp e asked asked was fine edit ∙ marks_pass (marks_of ramp asked) (marks_of ramp asked) refl

-- two thresholds that are one in force sample alike, and have one word
module _ (ramp : Ramp) (asked mine : Float) (one : threshold_of asked ≡ threshold_of mine) where
  pub fresh_alike : fresh ramp asked ≡ fresh ramp mine
  unfolding fresh
  fresh_alike =
      ap (λ (t : Float). held_of (rows_of (colour_of ramp) (differs t) (min_of ramp) (max_of ramp)) (counts_of (colour_of ramp) (differs t) (min_of ramp) (max_of ramp)) (words_of t (min_of ramp) (max_of ramp))) one

  pub marks_alike : marks_of ramp asked ≡ marks_of ramp mine
  marks_alike = ap (λ (t : Float). words_of t (min_of ramp) (max_of ramp)) one
