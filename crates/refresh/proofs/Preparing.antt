-- What `check_and_copy` leaves, from what the check of the record and the copy of the ramp promise. Assumes nothing.
use mathlib.Core.Path.{◌≡◌, refl, sym, ap, ◌∙◌}
use mathlib.Core.List.{List}
use Prim.Native.Nat.{ℕ, ◌+◌, ◌*◌, ◌≤◌}
use native.Mathlib.Nat.{le_trans, le_of_eq, min-le_right}
use native.Mathlib.Omega.{arith}
use lib.ListN.{length, take, length-take}
use lib.Ieee.{Float}
use Rattle.refusals.specs.Limits.{most_stops}
use Rattle.stops.specs.Lent.{Ramp, Change}
use Rattle.stops.specs.Answers.{on_fine}
use Rattle.stops.specs.declared.Checked.{Checked}
use Rattle.stops.specs.declared.Checked.TheVariants as checked
use Rattle.gradient.specs.Ramp.{check_of}
use Rattle.gradient.proofs.Valid.{valid}
use Rattle.sampling.specs.Lent.{Held}
use Rattle.records.specs.Fitness.{thin_check}
use Rattle.linearize.specs.Lent.{Output}
use Rattle.refresh.specs.editing.Edited.{stops_after, edited}
use Rattle.refresh.specs.editing.Rules.{edit_check}
use Rattle.refresh.specs.editing.Copied.{copy_check, copy_answer, Copies}
use Rattle.refresh.specs.inner.Prepared.{Prepared, Prepares}
use Rattle.refresh.specs.declared.editing.Edit.{Edit}
use Rattle.refresh.specs.declared.editing.copy.Copied.{Copied}
use Rattle.refresh.specs.declared.editing.copy.Copied.TheVariants as copied
use Rattle.refresh.proofs.editing.Splices.{written_is}
use Rattle.refresh.proofs.editing.Copying.{copy_check_lem, fits_are}
use Rattle.refresh.proofs.editing.EditSound.{edit_sound}
use Rattle.refresh.proofs.EditChecks.{thin_refuses, by_edit, thinned_fine}

-- ---- what an answer tells of the check behind it
same_number : (m n : ℕ) → copied.Refused m ≡ copied.Refused n → m ≡ n
same_number m n h = cc

no_stops : (m n : ℕ) → copied.Refused m ≡ copied.Stops n → ◌≡◌ {A = ℕ} 0 1
no_stops m n h = cc

copied_refused : (c : Checked) (k n : ℕ) → copied.Refused n ≡ on_fine c (copied.Stops k) copied.Refused → c ≡ checked.Refused n
copied_refused checked.Fine k n h = let z = no_stops n k h in absurd (omega arith)
copied_refused (checked.Refused m) k n h = ap checked.Refused (sym (same_number n m h))

copied_done : (c : Checked) (k n : ℕ) → copied.Stops n ≡ on_fine c (copied.Stops k) copied.Refused → (c ≡ checked.Fine) × (n ≡ k)
copied_done checked.Fine k n h = let z : n ≡ k = cc in (refl, z)
copied_done (checked.Refused m) k n h = let z = no_stops m n (sym h) in absurd (omega arith)

-- ---- a list of m that begins another is within it
taken_within : (m : ℕ) (l k : List Float) → take m l ≡ k → length k ≡ m → m ≤ length l
taken_within m l k is long = le_trans (le_of_eq (sym long ∙ ap length (sym is) ∙ length-take m l)) (min-le_right m (length l))

module _ (ramp : Ramp) (e : Edit) (asked : Float) (held : Change Held) (copy : Change Output) where
  abbrev was : Held
  was = held.entry

  abbrev before : Output
  before = copy.entry

  abbrev after : Output
  after = copy.exit

  -- ---- the check says no
  pub refuses : (m : ℕ) → thin_check ramp asked was ≡ checked.Refused m → Prepares ramp e asked held copy (copied.Refused m)
  refuses m h =
      record {
        refused = λ n is. thin_refuses ramp e asked was m h ∙ ap checked.Refused (same_number m n is);
        prepared = λ n is. let z = no_stops m n is in absurd (omega arith);
      }

  -- ---- it says yes, and the copy was asked for
  module _ (h : thin_check ramp asked was ≡ checked.Fine) (long : length before.positions ≡ most_stops + 1) (wide : length before.channels ≡ 4 * (most_stops + 1)) (r : Copied)
      (w : Copies ramp.kind ramp.positions ramp.channels e before.positions before.channels after.positions after.channels r) where
    fine : check_of ramp ≡ checked.Fine
    fine = thinned_fine ramp e asked was h

    checked_by : copy_check ramp.kind ramp.positions ramp.channels e before.positions before.channels ≡ edit_check ramp e
    unfolding most_stops
    checked_by =
        copy_check_lem ramp.kind ramp.positions ramp.channels e before.positions before.channels
        (λ h.
        let s = (valid ramp (edit_sound ramp e fine h).stops fine).sized in
        fits_are _ _ _ _ (record { most = s.most; four = s.four; some = omega (arith, s.most); wide = omega (arith, s.most, s.four) }))

    told : (x : Copied) → r ≡ x → x ≡ on_fine (edit_check ramp e) (copied.Stops (stops_after (length ramp.positions) e)) copied.Refused
    unfolding copy_answer
    told x is = sym is ∙ w.answer ∙ rw checked_by

    made : (n : ℕ) → r ≡ copied.Stops n → Prepared ramp e asked held copy n
    unfolding most_stops
    made n is =
        let d = copied_done (edit_check ramp e) (stops_after (length ramp.positions) e) n (told _ is) in
        let ok = edit_sound ramp e fine d.0 in
        let most = (valid (edited ramp e) ok.stops ok.still_fine).sized.most in
        let many : length (edited ramp e).positions ≡ n = ok.as_many ∙ sym d.1 in
        let four : length (edited ramp e).channels ≡ 4 * n = ok.four ∙ ap (λ (m : ℕ). 4 * m) (sym d.1) in
        let positions_are : take n after.positions ≡ (edited ramp e).positions =
        ap (take n) (w.written ∙ rw (checked_by, d.0)) ∙ written_is before.positions (edited ramp e).positions n many (omega (arith, most, many, long)) in
        let channels_are : take (4 * n) after.channels ≡ (edited ramp e).channels =
        ap (take (4 * n)) (w.coloured ∙ rw (checked_by, d.0)) ∙ written_is before.channels (edited ramp e).channels (4 * n) four (omega (arith, most, many, wide)) in
        record {
          fine = by_edit ramp e asked was h d.0;
          few = omega (arith, most, many);
          placed = taken_within n after.positions _ positions_are many;
          coloured = taken_within (4 * n) after.channels _ channels_are four;
          same = rw (positions_are, channels_are);
        }

    pub prepares : Prepares ramp e asked held copy r
    prepares =
        record {
          refused = λ n is. by_edit ramp e asked was h (copied_refused (edit_check ramp e) (stops_after (length ramp.positions) e) n (told _ is));
          prepared = made;
        }
