-- The answers of the call, from what the functions within promise. Assumes nothing.
use mathlib.Core.Path.{◌≡◌, refl, sym, ap, ◌∙◌}
use mathlib.Core.List.{List}
use Prim.Native.Nat.{ℕ, ◌≤◌, ◌<◌}
use lib.ListN.{length, replicate}
use lib.Ieee.{Float}
use borrow.Author.Tests.{lt-ltb, le-ltb}
use Rattle.refusals.specs.Refusals.{no_room}
use Rattle.stops.specs.Answers.{number_of_checked}
use Rattle.stops.specs.Lent.{Ramp}
use Rattle.stops.specs.declared.Checked.{Checked}
use Rattle.stops.specs.declared.Checked.TheVariants as checked
use Rattle.gradient.specs.Ramp.{colour_of}
use Rattle.gradient.proofs.Same.{same_function}
use Rattle.sampling.specs.Constants.{threshold_of}
use Rattle.sampling.specs.Midpoints.{Gradient}
use Rattle.sampling.proofs.Checks.{ramp_fine}
use Rattle.judge.specs.Lists.{Offer, offered_ramp}
use Rattle.judge.proofs.Listing.{offered_colour}
use Rattle.apart.specs.Checks.{lent_check, apart_check}
use Rattle.apart.specs.Answers.{told_of, faults_over, apart_of, bytes_of}
use Rattle.apart.specs.inner.Steps.{tally_of, Tells, AnyTells}
use Rattle.apart.specs.Promises.{TellsApart}
use Rattle.apart.specs.declared.told.Apart.{Apart}
use Rattle.apart.specs.declared.told.Apart.TheVariants.{Told, Refused}
use Rattle.apart.specs.declared.told.Tally.{Tally}
use Rattle.apart.proofs.Checking.{check_refused, check_narrow, check_fine, lent_ramp, lent_sound}

-- the counts as they are told
abbrev pub told_by : Tally → Apart
told_by t = Told t.moved t.close t.merged t.first

told_all : (g h : Gradient) (threshold step : Float) (ds : List Float) → told_by (tally_of g h threshold step ds (length ds)) ≡ told_of g h threshold step ds
unfolding told_of
told_all g h threshold step ds = refl

module _ (ramp : Ramp) (asked step : Float) (offer : Offer) (ds : List Float) (was : List ℕ) where
  abbrev check : Checked
  check = apart_check ramp offer ds step (length was)

  abbrev g : Gradient
  g = colour_of ramp

  abbrev h : Gradient
  h = colour_of (offered_ramp offer)

  -- ---- the answer and its number, by the whole check
  answer_refused : (n : ℕ) → check ≡ checked.Refused n → Refused n ≡ apart_of ramp asked step offer ds was
  unfolding apart_of
  answer_refused n e = simp e

  pub answer_told : check ≡ checked.Fine → told_of g h (threshold_of asked) step ds ≡ apart_of ramp asked step offer ds was
  unfolding apart_of
  answer_told e = simp e

  -- ---- the bytes, by the check of what was lent, and the room
  bytes_kept : (n : ℕ) → lent_check ramp offer ds step ≡ checked.Refused n → was ≡ bytes_of ramp asked step offer ds was
  unfolding bytes_of
  bytes_kept n e = simp e

  module _ (fine : lent_check ramp offer ds step ≡ checked.Fine) where
    bytes_zero : length was < length ds → replicate (length was) 0 ≡ bytes_of ramp asked step offer ds was
    unfolding bytes_of
    bytes_zero l = simp (fine, lt-ltb (length was) (length ds) l)

    bytes_told : length ds ≤ length was → faults_over g h (threshold_of asked) step ds was ≡ bytes_of ramp asked step offer ds was
    unfolding bytes_of
    bytes_told l = simp (fine, le-ltb (length was) (length ds) l)

    -- the colours of slices that passed the checks are document 01's
    checked_tells : {is : List ℕ} {r : Tally} {threshold : Float} → threshold ≡ threshold_of asked → AnyTells ramp threshold step offer ds was is r
        → Tells g h (threshold_of asked) step ds was is r
    checked_tells {is} {r} e w =
        rw (← e, ← same_function ramp (ramp_fine ramp 4608 36 3 (lent_ramp ramp offer ds step fine)), ← offered_colour offer (lent_sound ramp offer ds step fine)) w

  -- ---- the call
  pub call_refused : (n : ℕ) → lent_check ramp offer ds step ≡ checked.Refused n → TellsApart ramp asked step offer ds was was (Refused n)
  call_refused n e =
      let k = check_refused ramp offer ds step n (length was) e in
      record { answer = answer_refused n k; number = sym (ap number_of_checked k); bytes = bytes_kept n e }

  module _ (fine : lent_check ramp offer ds step ≡ checked.Fine) {is : List ℕ} where
    pub call_narrow : length was < length ds → is ≡ replicate (length was) 0 → TellsApart ramp asked step offer ds was is (Refused no_room)
    call_narrow l e =
        let k = check_narrow ramp offer ds step fine (length was) l in
        record { answer = answer_refused no_room k; number = sym (ap number_of_checked k); bytes = e ∙ bytes_zero fine l }

    pub call_told : length ds ≤ length was → {threshold : Float} {tally : Tally} → threshold ≡ threshold_of asked
        → AnyTells ramp threshold step offer ds was is tally → TellsApart ramp asked step offer ds was is (told_by tally)
    call_told l {threshold} {tally} e w =
        let k = check_fine ramp offer ds step fine (length was) l in
        let t = checked_tells fine e w in
        record {
          answer = ap told_by t.counts ∙ told_all g h (threshold_of asked) step ds ∙ answer_told k;
          number = sym (ap number_of_checked k);
          bytes = t.bytes ∙ bytes_told fine l;
        }
