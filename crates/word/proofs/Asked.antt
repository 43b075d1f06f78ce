-- A list that is done, over any record at all, has the shape that the judge asks for, so `apart` never answers 22 to it; nor 23 to the lent positions of stops. Assumes nothing.
use mathlib.Core.Path.{◌≡◌, refl, sym, ap, ◌∙◌, subst}
use mathlib.Core.Bool.{true, false}
use mathlib.Core.List.{List}
use Prim.Native.Nat.{ℕ, ◌+◌, ◌-◌, ◌≤◌, ◌<◌}
use native.Mathlib.Omega.{arith}
use lib.Dec.{T}
use lib.ListN.{length}
use lib.Ieee.{Float, le, lt}
use lib.Ieee.Bits.{is_true}
use lib.Ieee.Scale.{finite}
use Rattle.float.specs.F32.{f0}
use Rattle.float.proofs.Order.{le_refl, le_antisym, not_lt_from_le, no_nan_l, no_nan_r}
use Rattle.blend.specs.Channels.{colours_of}
use Rattle.blend.proofs.Channels.{length_colours}
use Rattle.stops.specs.Lent.{Ramp, change}
use Rattle.stops.specs.Stops.{pos_at, finite_rgba}
use Rattle.stops.specs.Place.{Rising}
use Rattle.stops.specs.declared.Checked.TheVariants.{Fine}
use Rattle.gradient.specs.Ramp.{is_gimp, check_of, min_in, max_in, min_of, max_of, colour_of}
use Rattle.gradient.proofs.Valid.{valid}
use Rattle.sampling.specs.Constants.{threshold_of}
use Rattle.sampling.specs.Lent.{Held}
use Rattle.sampling.proofs.Checks.{ramp_fine}
use Rattle.records.proofs.Passing.{sample_fine}
use Rattle.linearize.specs.Lent.{Output}
use Rattle.linearize.specs.Desk.{points_in, room}
use Rattle.linearize.specs.declared.Listed.{Listed}
use Rattle.linearize.specs.declared.Listed.TheVariants as listed
use Rattle.judge.specs.Lists.{Offer, offer_of, good_stop}
use Rattle.judge.specs.Verdicts.{shape_verdict}
use Rattle.judge.specs.declared.Verdict.TheVariants.{Yes}
use Rattle.judge.proofs.Failing.{passes_all}
use Rattle.judge.proofs.Listing as listing
use Rattle.judge.proofs.Shaping.{Shaped, yes_shape}
use Rattle.apart.specs.Answers.{told_of}
use Rattle.apart.specs.Checks.{good_depth, first_bad_depth, asked_check, lent_check}
use Rattle.apart.specs.Promises.{TellsApart}
use Rattle.apart.specs.declared.told.Apart.{Apart}
use Rattle.apart.proofs.Answering.{answer_told}
use Rattle.apart.proofs.Checking as checking
use Rattle.ordinary.specs.Ordinary.{Singles}
use Rattle.ordinary.proofs.Unrefused.{colour_written}
use Rattle.within.specs.Kept.{positions_of}
use Rattle.within.specs.Lists.{hold_of, kept_of, list_within, refusal_within}
use Rattle.within.specs.Promises.{ThinsWithin}
use Rattle.word.specs.Word.{ToldUnmoved, list_in}
use Rattle.word.proofs.Emitted.{stop_finite, colour_finite, least, most, first-is, last_is, never_fall}
use Rattle.word.proofs.Falling.{position_finite, ends_rise}
use Rattle.word.proofs.Written.{Made, thinned}
use Rattle.word.proofs.Calls.{taken_too}
use Rattle.word.proofs.Depths.{lent_unmoved}

-- ---- a list of any points
module _ (ramp : Ramp) (asked hold : Float) (space : ℕ) (ts : List Float) (done : refusal_within ramp asked hold space ts ≡ 0) (ordered : T (le (min_of ramp) (max_of ramp))) where
  abbrev ps : List Float
  ps = positions_of (kept_of ramp asked hold ts)

  abbrev cs : List Float
  cs = colours_of (colour_of ramp) ps

  good_at : (i : ℕ) → i < length ps → good_stop ps cs i ≡ true
  good_at i l =
      sym (listing.holds ps cs i (stop_finite ramp asked hold space ts done i l)
      (ap finite_rgba (colour_written (colour_of ramp) ps i l) ∙ colour_finite ramp asked hold space ts done i l)
      (not_lt_from_le (pos_at ps i) (pos_at ps (i - 1)) (never_fall ramp asked hold space ts done ordered (i - 1) i (omega arith) l)))

  shaped : Shaped (min_of ramp) (max_of ramp) (list_within ramp asked hold ts)
  unfolding list_within
  shaped =
      let lo = min_of ramp in
      let hi = max_of ramp in
      let low = le_refl lo (no_nan_l lo hi ordered) in
      let high = le_refl hi (no_nan_r lo hi ordered) in
      record {
        long = listing.from_size (length ps) (length cs) (record { least = least ramp asked hold space ts done; most = most ramp asked hold space ts done; four = length_colours (colour_of ramp) ps });
        stops = omega (arith, listing.all_good (offer_of ps cs) good_at);
        first = is_true _ (rw (first-is ramp asked hold space ts done) (le_antisym lo lo low low));
        last = is_true _ (rw (last_is ramp asked hold space ts done) (le_antisym hi hi high high));
      }

-- ---- the lent positions of stops, as depths
module _ (ramp : Ramp) (passes : check_of ramp ≡ Fine) (stops : is_gimp ramp.kind ≡ false) where
  abbrev ds : List Float
  ds = ramp.positions

  rising : Rising ds
  rising = (valid ramp stops passes).rising

  starts : min_of ramp ≡ pos_at ds 0
  unfolding min_in
  starts = rw stops

  ends : max_of ramp ≡ pos_at ds (length ds - 1)
  unfolding max_in
  ends = rw stops

  depth_good : (i : ℕ) → i < length ds → good_depth (min_of ramp) (max_of ramp) ds i ≡ true
  depth_good i l =
      sym (checking.holds (min_of ramp) (max_of ramp) ds i (position_finite ramp passes i l)
      (not_lt_from_le (pos_at ds i) (min_of ramp) (subst (λ (x : Float). T (le x (pos_at ds i))) (sym starts) (rising 0 i (omega arith) l)))
      (not_lt_from_le (max_of ramp) (pos_at ds i) (subst (λ (x : Float). T (le (pos_at ds i) x)) (sym ends) (rising i (length ds - 1) (omega arith) (omega arith))))
      (not_lt_from_le (pos_at ds i) (pos_at ds (i - 1)) (rising (i - 1) i (omega arith) l)))

  depths_fine : (step : Float) → finite step ≡ true → lt step f0 ≡ false → Fine ≡ asked_check (min_of ramp) (max_of ramp) ds step
  unfolding first_bad_depth
  depths_fine step f b =
      checking.asked_fine (min_of ramp) (max_of ramp) ds step (λ z. omega (arith, z, (valid ramp stops passes).sized.least))
      (sym (passes_all (good_depth (min_of ramp) (max_of ramp) ds) (length ds) 0 (λ j a l. depth_good j (omega arith)))) (omega arith) f b

-- ---- of the calls
module _ (ramp : Ramp) (asked hold : Float) (out out' : Output) (r : Listed) (n e : ℕ) (done : r ≡ listed.Done n e) (singles : Singles ramp.positions)
    (his step : Float) (force : threshold_of his ≡ hold_of asked hold) (good : finite step ≡ true) (not-below : lt step f0 ≡ false)
    (bytes bytes' : List ℕ) (wide : length ramp.positions ≤ length bytes) (q : Apart) (asking : TellsApart ramp his step (list_in out' n) ramp.positions bytes bytes' q)
    (stops : is_gimp ramp.kind ≡ false) where
  -- of stops, with the lent positions as depths, a step and bytes that are taken: `apart` is not refused, and nothing is moved
  pub lent_told_unmoved : (was : Held) → ThinsWithin ramp asked hold was (change out out') r → ToldUnmoved ramp.positions bytes' q
  unfolding told_of
  lent_told_unmoved was call =
      let made = thinned ramp asked hold out out' r n e done was call in
      let taken = sample_fine ramp asked was made.fine in
      let passes = ramp_fine ramp _ _ _ taken in
      let ts = points_in ramp was in
      let shape = shaped ramp asked hold (room out) ts made.none (ends_rise ramp passes) in
      let yes : shape_verdict (min_of ramp) (max_of ramp) (list_in out' n) Yes ≡ Yes =
      subst (λ (o : Offer). shape_verdict (min_of ramp) (max_of ramp) o Yes ≡ Yes) (sym made.list) (yes_shape (min_of ramp) (max_of ramp) (list_within ramp asked hold ts) Yes shape) in
      let fine : lent_check ramp (list_in out' n) ramp.positions step ≡ Fine =
      sym (checking.ramp_passed ramp (list_in out' n) ramp.positions step (taken_too ramp was taken) refl refl
      (checking.list_fine (min_of ramp) (max_of ramp) (list_in out' n) ramp.positions step (sym yes) refl (depths_fine ramp passes stops step good not-below))) in
      let told = asking.answer ∙ sym (answer_told ramp his step (list_in out' n) ramp.positions bytes (checking.check_fine ramp (list_in out' n) ramp.positions step fine (length bytes) wide)) in
      record {
        moved = _;
        close = _;
        merged = _;
        first = _;
        told = told;
        unmoved = lent_unmoved ramp asked hold out out' r n e done singles his step force bytes bytes' q told stops asking was call;
      }
