-- After an edit, of the calls: whatever sampling, refreshing, thinning and flattening answer and leave, as far as their contracts allow it, the refreshed record
-- and its list are those made afresh; a refreshed list is a refresh and then a thinning; a cell that is clear keeps its row and count. Assumes nothing.
use mathlib.Core.Path.{◌≡◌, refl, sym, ap, ◌∙◌}
use mathlib.Core.Bool.{true}
use mathlib.Core.Logic.{⊎_elim}
use Prim.Native.Nat.{ℕ, ◌<◌}
use native.Mathlib.Omega.{arith}
use lib.Dec.{T}
use lib.Ieee.{Float, binary32, fits}
use Rattle.refusals.specs.Refusals.{other_threshold}
use Rattle.stops.specs.Lent.{Ramp, Change, change}
use Rattle.stops.specs.Answers.{number_of_checked, on_fine}
use Rattle.stops.specs.declared.Checked.{Checked}
use Rattle.stops.specs.declared.Checked.TheVariants as checked
use Rattle.gradient.specs.Ramp.{check_of, min_of, max_of, colour_of}
use Rattle.sampling.specs.Constants.{cells, threshold_of}
use Rattle.sampling.specs.Cells.{cell_row, cell_count}
use Rattle.sampling.specs.Lent.{Held}
use Rattle.linearize.specs.Lent.{Output}
use Rattle.sampling.specs.Sampling.{number_of_sampled, far_of, marks_of, held_check, fresh, sample_answer, sample_held}
use Rattle.records.specs.Fitness.{marks_check}
use Rattle.linearize.specs.Desk.{number_of_listed, number_by, flatten_output}
use Rattle.sampling.specs.Promises.{Samples}
use Rattle.linearize.specs.Promises.{Thins, Flattens}
use Rattle.sampling.specs.declared.Sampled.{Sampled}
use Rattle.sampling.specs.declared.Sampled.TheVariants as sampled
use Rattle.linearize.specs.declared.Listed.{Listed}
use Rattle.sampling.proofs.Answers as Sampling
use Rattle.linearize.proofs.Checks.{ready}
use Rattle.sampling.proofs.Checks.{ramp_fine, record_lengths}
use Rattle.sampling.proofs.Words.{same_threshold}
use Rattle.records.proofs.Marking.{marks_pass, marks_either, marks_equal}
use Rattle.refresh.specs.reach.Stretch.{cell_clear}
use Rattle.refresh.specs.editing.Edited.{edited}
use Rattle.refresh.specs.editing.Rules.{edit_check}
use Rattle.refresh.specs.editing.Reached.{away, clear_cell}
use Rattle.refresh.specs.editing.Sound.{Sound}
use Rattle.refresh.proofs.editing.EditSound.{edit_sound}
use Rattle.refresh.specs.RefreshDesk.{refresh_check, renewed, refresh_answer, refresh_held, refresh_output, Refreshes, RefreshLists}
use Rattle.refresh.specs.AfterEdit.{Shaped, OneList, ByThreshold, Fresh, RefreshedThenThinned, FreshList, SameCell}
use Rattle.refresh.specs.declared.editing.Edit.{Edit}
use Rattle.refresh.proofs.EditChecks.{thin_fine, edited_sampling}
use Rattle.refresh.proofs.Agree.{row_at, count_at}
use Rattle.refresh.proofs.Keeping.{kept_row, kept_count}
use Rattle.refresh.proofs.ThenThinned.{by_check}
use Rattle.refresh.proofs.Theorem as theorem

-- a refusal of the check before a list is the list's
told_refused : (c : Checked) (k : ℕ) → number_of_checked c ≡ other_threshold → number_by c k ≡ other_threshold
told_refused checked.Fine k h = absurd (omega arith)
told_refused (checked.Refused n) k h = h

-- ---- a record that was sampled, refreshed after an edit, and one that was sampled afresh; thresholds are any f32
module _ (ramp : Ramp) (e : Edit) (edit : edit_check ramp e ≡ checked.Fine) where
  thinned_alike : (held other : Held) → held ≡ other → OneList ramp e held other
  thinned_alike held other p asked out out₁ out₂ r q v w =
      let u : Thins (edited ramp e) asked other (change out out₁) r = rw (← p) v in
      record { same_answer = u.told.answer ∙ sym w.told.answer; same_output = u.output ∙ sym w.output }

  module _ (asked mine : Float) (single : T (fits binary32 asked)) (single' : T (fits binary32 mine))
      (held : Change Held) (n : ℕ) (s : Sampled) (done : s ≡ sampled.Done n) (sampling : Samples ramp asked held s) where
    taken : Sampling.Fresh ramp asked held n
    taken = Sampling.fresh_is ramp asked held n s done sampling

    allowed : Sound ramp e
    allowed = edit_sound ramp e (ramp_fine ramp _ _ _ taken.fine) edit

    by_words : refresh_check ramp e mine held.exit ≡ marks_check (marks_of ramp mine) (marks_of ramp asked)
    by_words = rw taken.left (theorem.words_decide ramp e asked mine held.entry taken.fine edit)

    -- whoever passes has the threshold that the record was sampled with
    one_threshold : refresh_check ramp e mine held.exit ≡ checked.Fine → threshold_of asked ≡ threshold_of mine
    one_threshold passes = same_threshold ramp ramp asked mine single single' (marks_equal (marks_of ramp mine) (marks_of ramp asked) (sym by_words ∙ passes))

    passes_one : threshold_of asked ≡ threshold_of mine → refresh_check ramp e mine held.exit ≡ checked.Fine
    passes_one one = by_words ∙ marks_pass (marks_of ramp mine) (marks_of ramp asked) (theorem.marks_alike ramp asked mine one)

    -- and there is no other refusal than 20
    passes_unless : (number_of_checked (refresh_check ramp e mine held.exit) ≡ other_threshold → ⊥) → refresh_check ramp e mine held.exit ≡ checked.Fine
    passes_unless not =
        ⊎_elim
        (λ fine. by_words ∙ fine)
        (λ refused. absurd (not (ap number_of_checked (by_words ∙ refused))))
        (marks_either (marks_of ramp mine) (marks_of ramp asked))

    is_fresh : refresh_check ramp e mine held.exit ≡ checked.Fine → renewed ramp e mine held.exit ≡ fresh (edited ramp e) mine
    is_fresh passes = ap (renewed ramp e mine) (taken.left ∙ theorem.fresh_alike ramp asked mine (one_threshold passes)) ∙ theorem.fresh-renewed ramp e allowed mine

    -- the changed ramp may be sampled over any record of the right lengths
    anew : (other : Held) → Shaped other → held_check (edited ramp e) other ≡ checked.Fine
    anew other shaped =
        let l = record_lengths ramp _ _ _ taken.fine in
        rw (shaped.long ∙ sym l.long, shaped.many ∙ sym l.many, shaped.three ∙ sym l.three) (edited_sampling ramp e allowed held.entry taken.fine)

    -- a refresh is refused exactly where its threshold is another one in force
    pub refresh_by_threshold : (after : Held) (r : Sampled) → Refreshes ramp e mine (change held.exit after) r → ByThreshold ramp e asked mine held.exit after r
    unfolding refresh_answer refresh_held
    refresh_by_threshold after r refreshing =
        record {
          same = λ one. refreshing.answer ∙ rw (passes_one one);
          other =
              λ apart.
              let refused = ⊎_elim (λ fine. absurd (apart (one_threshold (by_words ∙ fine)))) (λ no. by_words ∙ no) (marks_either (marks_of ramp mine) (marks_of ramp asked)) in
              (refreshing.answer ∙ rw refused, refreshing.left ∙ rw refused);
        }

    -- demand 3: sampled, edited and refreshed, unless that is refused with 20, is sampled afresh, record and list
    pub refresh_is_fresh : (after : Held) (r : Sampled) → Refreshes ramp e mine (change held.exit after) r → (number_of_sampled r ≡ other_threshold → ⊥)
        → (other : Change Held) → Shaped other.entry → (q : Sampled) → Samples (edited ramp e) mine other q
        → Fresh ramp e mine after r other.exit q
    unfolding refresh_answer sample_answer refresh_held sample_held
    refresh_is_fresh after r refreshing not other shaped q afresh =
        let passes = passes_unless (λ no. not (refreshing.number ∙ no)) in
        let fine = anew other.entry shaped in
        let one : after ≡ other.exit = rw (refreshing.left, afresh.left, passes, fine) (is_fresh passes) in
        record { not_refused = refreshing.answer ∙ rw passes; sampled_too = afresh.answer ∙ rw fine; same_record = one; one_list = thinned_alike after other.exit one }

    -- the list that a refresh makes, unless it is refused with 20, is that of flattening the changed ramp, over any record
    pub refresh_list_is_fresh : (after : Held) (out out₁ out₂ : Output) (r : Listed) → RefreshLists ramp e mine (change held.exit after) (change out out₁) r
        → (number_of_listed r ≡ other_threshold → ⊥)
        → (other : Change Held) → Shaped other.entry → (q : Listed) → Flattens (edited ramp e) mine other (change out out₂) q
        → FreshList after other.exit out₁ out₂ r q
    unfolding refresh_held refresh_output sample_held flatten_output
    refresh_list_is_fresh after out out₁ out₂ r refreshing not other shaped q flattening =
        let passes = passes_unless (λ no. not (refreshing.told.number ∙ told_refused (refresh_check ramp e mine held.exit) _ no)) in
        let fresh_one = is_fresh passes in
        let fine = anew other.entry shaped in
        record {
          same_number = rw (refreshing.told.number, flattening.told.number, passes, fine, fresh_one);
          same_stops = rw (refreshing.told.stops, flattening.told.stops, passes, fine, fresh_one);
          same_record = rw (refreshing.left, flattening.left, passes, fine) fresh_one;
          same_output = rw (refreshing.output, flattening.output, passes, fine, fresh_one);
        }

-- ---- a refreshed list is a refresh, and then a thinning of the changed ramp
module _ (ramp : Ramp) (e : Edit) (asked : Float) (held : Change Held) (all : Held) (thinned : Change Output) (out : Output) (q : Sampled) (l r : Listed)
    (first : Refreshes ramp e asked held q)
    (second : Thins (edited ramp e) asked held.exit thinned l)
    (both : RefreshLists ramp e asked (change held.entry all) (change thinned.entry out) r) where
  pub refresh_list_is_both : RefreshedThenThinned held.exit all thinned out q l r
  refresh_list_is_both = by_check ramp e asked held all thinned out q l r first second both (refresh_check ramp e asked held.entry) refl

-- ---- cells that are clear of the edit
module _ (ramp : Ramp) (e : Edit) (asked : Float) (i : ℕ) (clear : cell_clear (away ramp e) (min_of ramp) (max_of ramp) i ≡ true) where
  -- a refresh leaves their row and count as they were, whatever stood there, in every record and whatever it answers
  module _ (cell : i < cells) (held : Change Held) (r : Sampled) (w : Refreshes ramp e asked held r) where
    kept : (c : Checked) → refresh_check ramp e asked held.entry ≡ c → SameCell i (on_fine c (renewed ramp e asked held.entry) (λ n. held.entry)) held.entry
    unfolding renewed
    kept checked.Fine h =
        let was = held.entry in
        let l = ready ramp asked was (thin_fine ramp e asked was h) in
        record {
          same_row = kept_row (colour_of (edited ramp e)) (far_of asked) (clear_cell ramp e) (min_of ramp) (max_of ramp) was.rows was.counts l.long l.many i cell clear;
          same_count = kept_count (colour_of (edited ramp e)) (far_of asked) (clear_cell ramp e) (min_of ramp) (max_of ramp) was.rows was.counts l.long l.many i cell clear;
        }
    kept (checked.Refused n) h = record { same_row = refl; same_count = refl }

    pub clear_cells_stay : SameCell i held.exit held.entry
    unfolding refresh_held
    clear_cells_stay = rw w.left (kept (refresh_check ramp e asked held.entry) refl)

  -- the two ramps have equal rows and counts there
  module _ (ramp_passes : check_of ramp ≡ checked.Fine) (edit : edit_check ramp e ≡ checked.Fine) where
    pub clear_cells_agree : (cell_row (colour_of ramp) (far_of asked) (min_of ramp) (max_of ramp) i ≡ cell_row (colour_of (edited ramp e)) (far_of asked) (min_of ramp) (max_of ramp) i)
        × (cell_count (colour_of ramp) (far_of asked) (min_of ramp) (max_of ramp) i ≡ cell_count (colour_of (edited ramp e)) (far_of asked) (min_of ramp) (max_of ramp) i)
    clear_cells_agree =
        let ok = edit_sound ramp e ramp_passes edit in
        (theorem.clear_row ramp e ok asked i clear, theorem.clear_count ramp e ok asked i clear)

    fresh_cells : i < cells → SameCell i (fresh ramp asked) (fresh (edited ramp e) asked)
    unfolding fresh
    fresh_cells cell =
        let at = row_at (colour_of ramp) (far_of asked) (min_of ramp) (max_of ramp) i cell in
        let new = row_at (colour_of (edited ramp e)) (far_of asked) (min_of ramp) (max_of ramp) i cell in
        let count = count_at (colour_of ramp) (far_of asked) (min_of ramp) (max_of ramp) i cell in
        let anew = count_at (colour_of (edited ramp e)) (far_of asked) (min_of ramp) (max_of ramp) i cell in
        let ok = edit_sound ramp e ramp_passes edit in
        rw (ok.same_min, ok.same_max) (record { same_row = at ∙ clear_cells_agree.0 ∙ sym new; same_count = count ∙ clear_cells_agree.1 ∙ sym anew })

    -- so any two samplings, of the one and of the other, that leave the same words leave them alike
    pub clear_cells_same : i < cells → (mine : Float) → T (fits binary32 asked) → T (fits binary32 mine) → (held other : Change Held) (n m : ℕ) (s q : Sampled) → s ≡ sampled.Done n → q ≡ sampled.Done m
        → Samples ramp asked held s → Samples (edited ramp e) mine other q → held.exit.marks ≡ other.exit.marks → SameCell i held.exit other.exit
    unfolding fresh
    clear_cells_same cell mine single single' held other n m s q done done' old new words =
        let a = Sampling.fresh_is ramp asked held n s done old in
        let b = Sampling.fresh_is (edited ramp e) mine other m q done' new in
        let one = same_threshold ramp (edited ramp e) asked mine single single' (rw (a.left, b.left) at words) in
        rw (a.left, b.left, ← theorem.fresh_alike (edited ramp e) asked mine one) (fresh_cells cell)
