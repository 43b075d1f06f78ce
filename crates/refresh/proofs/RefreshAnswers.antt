-- The answers of a refresh, from what the functions within promise. Assumes nothing.
use mathlib.Core.Path.{◌≡◌, refl, sym, ◌∙◌}
use mathlib.Core.Bool.{Bool, true, false}
use mathlib.Core.List.{List}
use Prim.Native.Nat.{ℕ, zero, suc, ◌+◌, ◌≤◌}
use native.Mathlib.Omega.{arith}
use borrow.Author.Tests.{le-leb}
use lib.ListN.{get_or}
use lib.Ieee.{Float}
use Rattle.stops.specs.Lent.{Ramp, Change, change}
use Rattle.stops.specs.Answers.{on_fine}
use Rattle.stops.specs.declared.Checked.{Checked}
use Rattle.stops.specs.declared.Checked.TheVariants as checked
use Rattle.gradient.specs.Ramp.{min_of, max_of, colour_of}
use Rattle.sampling.specs.Constants.{cells, row_length}
use Rattle.sampling.specs.Lent.{Held}
use Rattle.sampling.specs.Sampling.{evaluations_of_sampled, far_of, held_check}
use Rattle.sampling.specs.declared.Sampled.{Sampled}
use Rattle.sampling.specs.declared.Sampled.TheVariants as anew
use Rattle.sampling.proofs.Bounds.{summed_most}
use Rattle.places.specs.Places.{list_of, Ready}
use Rattle.thinning.specs.Kept.{refusal_of, list_evaluations}
use Rattle.linearize.specs.Lent.{Output}
use Rattle.linearize.specs.Desk.{evaluations_of_listed, value_by, points_in, room}
use Rattle.linearize.specs.declared.Listed.{Listed}
use Rattle.linearize.specs.declared.Listed.TheVariants as listed
use Rattle.sampling.proofs.Words.{same_held}
use Rattle.linearize.proofs.Checks.{ready}
use Rattle.linearize.proofs.Answers.{tells}
use Rattle.linearize.proofs.Bounds.{list_bound}
use Rattle.places.proofs.Following.{list_some, list_most}
use Rattle.refresh.specs.editing.Edited.{edited}
use Rattle.refresh.specs.editing.Reached.{cells_kept, clear_cell}
use Rattle.linearize.specs.Relist.{count_fits, counts_fit, relist_check, relist_held, relist_output, Relists}
use Rattle.sampling.specs.Anew.{kept_by, anew_tries, anew_evaluations, resampled, resampled_evaluations, resample_answer, resample_held}
use Rattle.sampling.specs.Promises.{Resamples}
use Rattle.refresh.specs.RefreshDesk.{renewed, new_evaluations, refresh_check, refresh_answer, refresh_evaluations, refresh_held, refresh_output, Refreshes, RefreshLists}
use Rattle.refresh.specs.declared.editing.Edit.{Edit}
use Rattle.refresh.proofs.EditChecks.{thin_fine, sampled, own_words, allowed, edited_sampling, same_marks, kept}
use Rattle.sampling.proofs.Renewing.{anew_tries_most}
use Rattle.refresh.proofs.Keeping.{renewed_ready, same_rows, same_counts, same_evaluations}

-- a count from 1 to 128 fits, kept or not
fits : (k : Bool) (n : ℕ) → 1 ≤ n → n ≤ row_length → count_fits k n ≡ true
unfolding count_fits
fits true n h l = rw (le-leb 1 n h, le-leb n row_length l)
fits false n h l = refl

-- ---- sampled anew, with the kept cells left, is renewed
module _ (ramp : Ramp) (e : Edit) (asked : Float) (was : Held) (fine : refresh_check ramp e asked was ≡ checked.Fine) where
  -- the cells that are left, and the changed ramp in the copy
  abbrev kept_cells : List Bool
  kept_cells = cells_kept ramp.kind ramp.positions e

  pub edited_held : held_check (edited ramp e) was ≡ checked.Fine
  edited_held = edited_sampling ramp e (allowed ramp e asked was fine) was (sampled ramp e asked was fine)

  -- so does the check of a list for which the kept cells are left: their counts are among those that were checked
  counts_fit_lem : (keep : ℕ → Bool) (i n : ℕ) → i + n ≤ cells → counts_fit keep was.counts i n ≡ true
  unfolding counts_fit
  counts_fit_lem keep i zero h = refl
  counts_fit_lem keep i (suc n) h =
      let r = ready ramp asked was (thin_fine ramp e asked was fine) in
      rw (fits (keep i) (get_or was.counts i 0) (r.some i (omega arith)) (r.most i (omega arith))) (counts_fit_lem keep (i + 1) n (omega arith))

  relist_fine : relist_check (edited ramp e) asked kept_cells was ≡ checked.Fine
  unfolding relist_check
  relist_fine = rw (edited_held, counts_fit_lem (kept_by kept_cells) 0 cells (omega arith))

  -- the words that are written stood there already: the changed ramp has the ends of the ramp
  resampled_is : resampled (edited ramp e) asked kept_cells was ≡ renewed ramp e asked was
  unfolding resampled renewed
  resampled_is =
      let same = kept ramp e asked was fine in
      let ok = allowed ramp e asked was fine in
      rw (same_marks ramp e ok asked, ok.same_min, ok.same_max)
      (same_held _ _ (same_rows _ _ _ _ _ _ same was.rows) (same_counts _ _ _ _ _ _ same was.counts) (sym (own_words ramp e asked was fine)))

  spent_is : resampled_evaluations (edited ramp e) asked kept_cells ≡ new_evaluations ramp e asked
  unfolding resampled_evaluations new_evaluations
  spent_is =
      let ok = allowed ramp e asked was fine in
      rw (ok.same_min, ok.same_max) (same_evaluations _ _ _ _ _ _ (kept ramp e asked was fine))

-- ---- the answers
module _ (ramp : Ramp) (e : Edit) (asked : Float) where
  pub refresh_refused : (was : Held) (n : ℕ) → refresh_check ramp e asked was ≡ checked.Refused n → Refreshes ramp e asked (change was was) (anew.Refused n)
  unfolding refresh_answer refresh_evaluations refresh_held
  refresh_refused was n h = record { answer = rw h; number = rw h; evaluations = rw h; left = rw h }

  pub refresh_list_refused : (was : Held) (out : Output) (n : ℕ) → refresh_check ramp e asked was ≡ checked.Refused n
      → RefreshLists ramp e asked (change was was) (change out out) (listed.Refused n)
  unfolding refresh_held refresh_output
  refresh_list_refused was out n h = record { told = tells _ _ _ _ _ (rw h); left = rw h; output = rw h }

  -- the changed ramp in a copy, and the kept cells
  module _ (held : Change Held) (h : refresh_check ramp e asked held.entry ≡ checked.Fine) (copy : Ramp) (ks : List Bool) (is_edited : copy ≡ edited ramp e) (are_kept : ks ≡ cells_kept ramp.kind ramp.positions e) where
    pub refresh_done : (r : Sampled) → Resamples copy asked ks held r → Refreshes ramp e asked held r
    unfolding resample_answer resample_held refresh_answer refresh_evaluations refresh_held
    refresh_done r v =
        let was = held.entry in
        let w : Resamples (edited ramp e) asked (cells_kept ramp.kind ramp.positions e) held r = rw (← is_edited, ← are_kept) v in
        let fine = edited_held ramp e asked was h in
        let done : r ≡ anew.Done (new_evaluations ramp e asked) = w.answer ∙ rw (fine, spent_is ramp e asked was h) in
        record { answer = done ∙ rw h; number = rw (done, h); evaluations = rw (done, h); left = w.left ∙ rw (fine, h, resampled_is ramp e asked was h) }

    pub refresh_list_done : (out : Change Output) (r : Listed) → Relists copy asked ks held out r → RefreshLists ramp e asked held out r
    unfolding relist_held relist_output refresh_held refresh_output
    refresh_list_done out r v =
        let was = held.entry in
        let w : Relists (edited ramp e) asked (cells_kept ramp.kind ramp.positions e) held out r = rw (← is_edited, ← are_kept) v in
        let fine = relist_fine ramp e asked was h in
        let is = resampled_is ramp e asked was h in
        record {
          told = tells _ _ _ _ _ (w.told.answer ∙ rw (fine, h, is, spent_is ramp e asked was h));
          left = w.left ∙ rw (fine, h, is);
          output = w.output ∙ rw (fine, h, is);
        }

-- ---- a refresh tells 13,716 evaluations at most
pub new_most : (ramp : Ramp) (e : Edit) (asked : Float) → new_evaluations ramp e asked ≤ 13716
unfolding new_evaluations anew_evaluations
new_most ramp e asked =
    let g = colour_of (edited ramp e) in
    omega (arith, summed_most (anew_tries g (far_of asked) (clear_cell ramp e) (min_of ramp) (max_of ramp)) cells (anew_tries_most g (far_of asked) (clear_cell ramp e) (min_of ramp) (max_of ramp)))

fine_most : (check : Checked) (n most : ℕ) → n ≤ most → on_fine check n (λ k. 0) ≤ most
fine_most checked.Fine n most h = h
fine_most (checked.Refused k) n most h = omega arith

module _ (ramp : Ramp) (e : Edit) (asked : Float) (held : Change Held) (r : Sampled) (w : Refreshes ramp e asked held r) where
  -- 13,716 evaluations at most
  pub refresh_most : evaluations_of_sampled r ≤ 13716
  unfolding refresh_evaluations
  refresh_most = omega (arith, w.evaluations, fine_most (refresh_check ramp e asked held.entry) (new_evaluations ramp e asked) 13716 (new_most ramp e asked))

-- ---- 13,716 + 18,430 evaluations at most for a refresh and its list
value_most : (check : Checked) (k n most : ℕ) → (check ≡ checked.Fine → n ≤ most) → value_by check k n ≤ most
value_most checked.Fine zero n most h = h refl
value_most checked.Fine (suc k) n most h = omega arith
value_most (checked.Refused r) k n most h = omega arith

module _ (ramp : Ramp) (e : Edit) (asked : Float) (was : Held) where
  -- the record once the edit is made has the words that it had
  pub words_stay : (renewed ramp e asked was).marks ≡ was.marks
  unfolding renewed
  words_stay = refl

  -- it may be thinned
  pub renewed_thins : refresh_check ramp e asked was ≡ checked.Fine → Ready (renewed ramp e asked was).rows (renewed ramp e asked was).counts
  unfolding renewed
  renewed_thins h =
      renewed_ready (colour_of (edited ramp e)) (far_of asked) (clear_cell ramp e) (min_of ramp) (max_of ramp) was.rows was.counts (ready ramp asked was (thin_fine ramp e asked was h))

  pub relist_most : refresh_check ramp e asked was ≡ checked.Fine
      → new_evaluations ramp e asked + list_evaluations (colour_of (edited ramp e)) (far_of asked) (points_in (edited ramp e) (renewed ramp e asked was)) ≤ 32146
  relist_most h =
      let is = renewed ramp e asked was in
      let ok = renewed_thins h in
      let hi = max_of (edited ramp e) in
      omega (arith, new_most ramp e asked, list_bound (colour_of (edited ramp e)) (far_of asked) (list_of is.rows is.counts hi) (omega (arith, list_some is.rows is.counts hi ok)) (list_most is.rows is.counts hi ok))

pub refresh_list_most : (ramp : Ramp) (e : Edit) (asked : Float) (held : Change Held) (out : Change Output) (r : Listed) → RefreshLists ramp e asked held out r → evaluations_of_listed r ≤ 32146
refresh_list_most ramp e asked held out r w =
    let g = colour_of (edited ramp e) in
    let ts = points_in (edited ramp e) (renewed ramp e asked held.entry) in
    omega (
      arith,
      w.told.evaluations,
      value_most (refresh_check ramp e asked held.entry) (refusal_of g (far_of asked) (room out.entry) ts) (new_evaluations ramp e asked + list_evaluations g (far_of asked) ts) 32146 (relist_most ramp e asked held.entry),
    )
