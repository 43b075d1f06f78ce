-- The answers of `edit`, from what the functions within promise. Assumes nothing.
use mathlib.Core.Path.{◌≡◌, refl, sym, ap, ◌∙◌}
use mathlib.Core.Bool.{true, false}
use mathlib.Core.List.{List}
use Prim.Native.Nat.{ℕ, ◌+◌, ◌*◌, ◌≤◌}
use native.Mathlib.Omega.{arith}
use lib.ListN.{length, take}
use lib.Seq.{sets, length-sets, length-take-le}
use lib.Ieee.{Float}
use Rattle.refusals.specs.Refusals.{misshapen}
use Rattle.refusals.specs.Limits.{most_stops}
use Rattle.stops.specs.Lent.{Ramp, ramp_of, Change, change}
use Rattle.stops.specs.Answers.{on_fine}
use Rattle.stops.specs.declared.Kind.{Kind}
use Rattle.stops.specs.declared.Checked.{Checked}
use Rattle.stops.specs.declared.Checked.TheVariants as checked
use Rattle.gradient.proofs.Valid.{valid}
use Rattle.sampling.specs.Lent.{Held}
use Rattle.sampling.proofs.Checks.{passes_both}
use Rattle.records.specs.Fitness.{thin_check}
use Rattle.linearize.specs.Lent.{Output}
use Rattle.refresh.specs.editing.Edited.{positions_after, channels_after, stop_of, gone_of, stops_after}
use Rattle.refresh.specs.editing.Rules.{edit_check}
use Rattle.refresh.specs.editing.Sound.{Sound}
use Rattle.refresh.specs.RefreshDesk.{refresh_check, renewed, new_evaluations, refresh_answer, refresh_held, Refreshes}
use Rattle.refresh.specs.declared.editing.Edit.{Edit}
use Rattle.sampling.specs.declared.Sampled.{Sampled}
use Rattle.sampling.specs.declared.Sampled.TheVariants as refreshed
use Rattle.refresh.proofs.EditChecks.{allowed}
use Rattle.refresh.proofs.ThenThinned.{renewed_passes}
use Rattle.refresh.proofs.RefreshAnswers.{new_most}
use Rattle.refresh.proofs.editing.Copying.{stop_there}
use Rattle.refresh.proofs.editing.Splices.{written_is}
use Rattle.sheet.specs.Room.{positions_for, channels_for, stops_fit, first_of, rewritten}
use Rattle.sheet.specs.Promises.{made_edit, made_ramp, sheet_check, edit_answer, Edits}
use Rattle.sheet.specs.inner.Making.{MayMake, Makes, ListsBy}
use Rattle.sheet.specs.declared.ListSort.{ListSort}
use Rattle.sheet.specs.declared.SheetAnswer.{SheetAnswer}
use Rattle.sheet.specs.declared.SheetAnswer.TheVariants.{Refused}
use Rattle.sheet.proofs.Rooms.{Fit, fit_is, fitted_fits}
use Rattle.sheet.proofs.Lists.{listed_is, output_is}

-- ---- the answer of a refresh, back to its check
refreshed_refused : (c : Checked) (k n : ℕ) → refreshed.Refused n ≡ on_fine c (refreshed.Done k) refreshed.Refused → c ≡ checked.Refused n
refreshed_refused checked.Fine k n h = let z : ◌≡◌ {A = ℕ} 0 1 = cc in absurd (omega arith)
refreshed_refused (checked.Refused m) k n h = let z : n ≡ m = cc in ap checked.Refused (sym z)

refreshed_done : (c : Checked) (k n : ℕ) → refreshed.Done n ≡ on_fine c (refreshed.Done k) refreshed.Refused → (c ≡ checked.Fine) × (n ≡ k)
refreshed_done checked.Fine k n h = let z : n ≡ k = cc in (refl, z)
refreshed_done (checked.Refused m) k n h = let z : ◌≡◌ {A = ℕ} 0 1 = cc in absurd (omega arith)

module _ (room : Ramp) (n : ℕ) (e : Edit) (asked : Float) where
  pub edit_misshapen : (sort : ListSort) (was : Held) (out : Output) → stops_fit room.kind n (length room.positions) (length room.channels) ≡ false
      → Edits (change room room) n e asked sort (change was was) (change out out) (Refused misshapen)
  unfolding sheet_check edit_answer
  edit_misshapen sort was out f = record { answer = rw f; ramp = rw f; left = rw f; output = rw f }

  -- with the lengths and the edit that the functions within gave
  module _ (fits : stops_fit room.kind n (length room.positions) (length room.channels) ≡ true) (p c : ℕ) (made : Edit)
      (positions : p ≡ positions_for room.kind n) (channels : c ≡ channels_for room.kind n) (made_is : made ≡ made_edit room n e)
      (held : Change Held) (q : Sampled) where
    abbrev part : Ramp
    part = ramp_of room.kind (take p room.positions) (take c room.channels) room.codes

    part_is : part ≡ first_of room n
    part_is = rw (positions, channels)

    module _ (w : Refreshes part made asked held q) where
      refreshes : Refreshes (first_of room n) (made_edit room n e) asked held q
      refreshes = rw (← part_is, ← made_is) w

      pub edit_refused : (sort : ListSort) (out : Output) (k : ℕ) → q ≡ refreshed.Refused k → Edits (change room room) n e asked sort held (change out out) (Refused k)
      unfolding refresh_answer refresh_held sheet_check edit_answer
      edit_refused sort out k h =
          let refused : refresh_check (first_of room n) (made_edit room n e) asked held.entry ≡ checked.Refused k =
          refreshed_refused (refresh_check (first_of room n) (made_edit room n e) asked held.entry) (new_evaluations (first_of room n) (made_edit room n e) asked) k (sym h ∙ refreshes.answer) in
          record { answer = rw (fits, refused); ramp = rw (fits, refused); left = refreshes.left ∙ rw (fits, refused); output = rw (fits, refused) }

      -- what a refresh that is not refused tells
      pub record Taken (spent : ℕ) : Type 0 where
        pub fine : refresh_check (first_of room n) (made_edit room n e) asked held.entry ≡ checked.Fine
        pub left : held.exit ≡ renewed (first_of room n) (made_edit room n e) asked held.entry
        pub spent_is : spent ≡ new_evaluations (first_of room n) (made_edit room n e) asked

      pub taken : (spent : ℕ) → q ≡ refreshed.Done spent → Taken spent
      unfolding refresh_answer refresh_held
      taken spent h =
          let d = refreshed_done (refresh_check (first_of room n) (made_edit room n e) asked held.entry) (new_evaluations (first_of room n) (made_edit room n e) asked) spent (sym h ∙ refreshes.answer) in
          record { fine = d.0; left = refreshes.left ∙ rw d.0; spent_is = d.1 }

same_ramp : (kind : Kind) (codes : List ℕ) {ps qs cs ds : List Float} → ps ≡ qs → cs ≡ ds → ramp_of kind ps cs codes ≡ ramp_of kind qs ds codes
same_ramp kind codes p q = rw (p, q)

-- ---- an edit that passes
module _ (room : Ramp) (n : ℕ) (e : Edit) (asked : Float) (was : Held)
    (fits : stops_fit room.kind n (length room.positions) (length room.channels) ≡ true)
    (fine : refresh_check (first_of room n) (made_edit room n e) asked was ≡ checked.Fine) where
  pub edit_ok : Sound (first_of room n) (made_edit room n e)
  edit_ok = allowed (first_of room n) (made_edit room n e) asked was fine

  pub edit_fine : edit_check (first_of room n) (made_edit room n e) ≡ checked.Fine
  unfolding refresh_check
  edit_fine = (passes_both (thin_check (first_of room n) asked was) (edit_check (first_of room n) (made_edit room n e)) fine).1

  lent : Fit room.kind n (length room.positions) (length room.channels)
  lent = fit_is room.kind n (length room.positions) (length room.channels) fits

  positions_lent : n ≤ length room.positions
  positions_lent = rw edit_ok.stops at lent.positions_there

  channels_lent : 4 * n ≤ length room.channels
  channels_lent = rw edit_ok.stops at lent.channels_there

  positions_are : (first_of room n).positions ≡ take n room.positions
  positions_are = rw edit_ok.stops

  channels_are : (first_of room n).channels ≡ take (4 * n) room.channels
  channels_are = rw edit_ok.stops

  many : length (first_of room n).positions ≡ n
  many = ap length positions_are ∙ length-take-le n room.positions positions_lent

  room_after : (stops_after n (made_edit room n e) ≤ length room.positions) × (4 * stops_after n (made_edit room n e) ≤ length room.channels)
  room_after = fitted_fits n (length room.positions) (length room.channels) e positions_lent channels_lent

  stands : stop_of (made_edit room n e) + gone_of (made_edit room n e) ≤ n
  stands = rw many at (stop_there room.kind (first_of room n).positions (made_edit room n e) edit_fine)

  pub may_make : (made : Edit) → made ≡ made_edit room n e → MayMake room.positions room.channels n made
  may_make made is =
      rw is
      (record { most = lent.most; there = stands; positions_fit_before = positions_lent; channels_fit_before = channels_lent; positions_fit_after = room_after.0; channels_fit_after = room_after.1 })

  as_long : length (made_ramp room n e).positions ≡ stops_after n (made_edit room n e)
  as_long = edit_ok.as_many ∙ ap (λ (k : ℕ). stops_after k (made_edit room n e)) many

  as_wide : length (made_ramp room n e).channels ≡ 4 * stops_after n (made_edit room n e)
  as_wide = edit_ok.four ∙ ap (λ (k : ℕ). 4 * stops_after k (made_edit room n e)) many

  -- of stops, as many positions as stops
  positions_for_lem : (m : ℕ) → positions_for room.kind m ≡ m
  positions_for_lem m = rw edit_ok.stops

  channels_for_lem : (m : ℕ) → channels_for room.kind m ≡ 4 * m
  channels_for_lem m = rw edit_ok.stops

  -- what is written is the ramp with the edit made
  pub first_written : first_of (rewritten room (made_ramp room n e)) (stops_after n (made_edit room n e)) ≡ made_ramp room n e
  first_written =
      let m = stops_after n (made_edit room n e) in
      let ps = (made_ramp room n e).positions in
      let cs = (made_ramp room n e).channels in
      let a : take (positions_for room.kind m) (sets room.positions 0 ps) ≡ ps = ap (λ (k : ℕ). take k (sets room.positions 0 ps)) (positions_for_lem m) ∙ written_is room.positions ps m as_long room_after.0 in
      let b : take (channels_for room.kind m) (sets room.channels 0 cs) ≡ cs = ap (λ (k : ℕ). take k (sets room.channels 0 cs)) (channels_for_lem m) ∙ written_is room.channels cs (4 * m) as_wide room_after.1 in
      same_ramp room.kind room.codes a b

  -- ---- once it is made in place
  module _ (made : Edit) (is : made ≡ made_edit room n e) (ps cs : List Float) (left : ℕ) (w : Makes room.positions room.channels n made ps cs left) where
    stops_left : left ≡ stops_after n (made_edit room n e)
    stops_left = w.stops ∙ ap (stops_after n) is

    long : length (made_ramp room n e).positions ≡ left
    long = as_long ∙ sym stops_left

    wide : length (made_ramp room n e).channels ≡ 4 * left
    wide = as_wide ∙ ap (λ (k : ℕ). 4 * k) (sym stops_left)

    pub left_few : left ≤ 2048
    unfolding most_stops
    left_few = omega (arith, (valid (made_ramp room n e) edit_ok.stops edit_ok.still_fine).sized.most, long)

    positions_written : ps ≡ sets room.positions 0 (made_ramp room n e).positions
    positions_written = w.positions ∙ ap (λ (x : Edit). sets room.positions 0 (positions_after (take n room.positions) x)) is ∙ ap (λ (l : List Float). sets room.positions 0 (positions_after l (made_edit room n e))) (sym positions_are)

    channels_written : cs ≡ sets room.channels 0 (made_ramp room n e).channels
    channels_written = w.channels ∙ ap (λ (x : Edit). sets room.channels 0 (channels_after (take (4 * n) room.channels) x)) is ∙ ap (λ (l : List Float). sets room.channels 0 (channels_after l (made_edit room n e))) (sym channels_are)

    pub positions_hold : left ≤ length ps
    positions_hold = omega (arith, room_after.0, stops_left, ap length positions_written ∙ length-sets room.positions 0 (made_ramp room n e).positions)

    pub channels_hold : 4 * left ≤ length cs
    channels_hold = omega (arith, room_after.1, stops_left, ap length channels_written ∙ length-sets room.channels 0 (made_ramp room n e).channels)

    left_ramp : (k : ℕ) → k ≡ 4 * left → ramp_of room.kind (take left ps) (take k cs) room.codes ≡ made_ramp room n e
    left_ramp k m =
        let a : take left ps ≡ (made_ramp room n e).positions = ap (take left) positions_written ∙ written_is room.positions (made_ramp room n e).positions left long (omega (arith, room_after.0, stops_left)) in
        let b : take k cs ≡ (made_ramp room n e).channels = ap (take k) channels_written ∙ written_is room.channels (made_ramp room n e).channels k (wide ∙ sym m) (omega (arith, room_after.1, stops_left)) in
        rw (a, b)

    pub edit_done : (sort : ListSort) (is_held_lem : Held) (out : Change Output) (spent k : ℕ) (r : SheetAnswer) → k ≡ 4 * left
        → is_held_lem ≡ renewed (first_of room n) (made_edit room n e) asked was → spent ≡ new_evaluations (first_of room n) (made_edit room n e) asked
        → ListsBy sort (ramp_of room.kind (take left ps) (take k cs) room.codes) asked is_held_lem out left spent r
        → Edits (change room (ramp_of room.kind ps cs room.codes)) n e asked sort (change was is_held_lem) out r
    unfolding sheet_check edit_answer
    edit_done sort is_held_lem out spent k r m h s l =
        let ramp = made_ramp room n e in
        let new = renewed (first_of room n) (made_edit room n e) asked was in
        let list : ListsBy sort ramp asked new out left spent r = rw (← left_ramp k m, ← h) l in
        let thins = renewed_passes (first_of room n) (made_edit room n e) asked was fine in
        record {
          answer = listed_is ramp asked new thins out sort left spent r list (omega (arith, s, new_most (first_of room n) (made_edit room n e) asked)) ∙ rw (fits, fine, stops_left, s);
          ramp = rw (fits, fine, positions_written, channels_written);
          left = h ∙ rw (fits, fine);
          output = output_is ramp asked new thins out sort left spent r list ∙ rw (fits, fine);
        }
