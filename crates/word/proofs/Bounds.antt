-- Of the calls: no answer is 9, since points rise; and there are 10,755 evaluations at most, with a sampling 24,471. Assumes nothing.
use mathlib.Core.Path.{◌≡◌, refl, sym, subst}
use mathlib.Core.Bool.{Bool, true, false, cond, ◌&&◌}
use mathlib.Core.List.{List, [], ◌∷◌}
use Prim.Native.Nat.{ℕ, zero, suc, ◌+◌, ◌≤◌, min}
use native.Mathlib.Omega.{arith}
use lib.Dec.{T, leb}
use lib.ListN.{length}
use lib.Ieee.{Float, lt}
use lib.Ieee.Scale.{finite}
use Rattle.refusals.specs.Refusals.{other_threshold, no_room, list_not_finite, list_falling, not_shown}
use Rattle.refusals.specs.Limits.{most_stops}
use Rattle.float.proofs.Order.{lt_irrefl}
use Rattle.blend.specs.declared.Rgba.{Rgba}
use Rattle.stops.specs.Lent.{Ramp, Change, change}
use Rattle.stops.specs.Stops.{finite_rgba}
use Rattle.stops.specs.declared.Checked.{Checked}
use Rattle.stops.specs.declared.Checked.TheVariants as checked
use Rattle.gradient.specs.Ramp.{is_gimp, check_of, min_of, max_of, colour_of}
use Rattle.gradient.proofs.Valid.{valid}
use Rattle.gradient.proofs.GimpLaws.{fine_shape}
use Rattle.sampling.specs.Lent.{Held}
use Rattle.sampling.specs.Midpoints.{Gradient}
use Rattle.sampling.specs.Sampling.{held_check, far_of, fresh, fresh_evaluations}
use Rattle.sampling.proofs.Answers.{fresh_bound}
use Rattle.sampling.proofs.Checks.{ramp_fine}
use Rattle.records.specs.Fitness.{thin_check}
use Rattle.records.proofs.Passing.{sample_fine}
use Rattle.thinning.specs.Kept.{stop_refusal, first_refusal}
use Rattle.places.proofs.Following.{list_most}
use Rattle.linearize.specs.Lent.{Output}
use Rattle.linearize.specs.Desk.{evaluations_of_listed, value_by, unless_refused, points_in, room}
use Rattle.linearize.specs.Promises.{Tells}
use Rattle.linearize.specs.declared.Listed.{Listed}
use Rattle.linearize.specs.declared.Listed.TheVariants as listed
use Rattle.linearize.proofs.Checks.{ready}
use Rattle.linearize.proofs.Records.{sampled_ready}
use Rattle.judge.specs.Lists.{most_listed}
use Rattle.within.specs.Kept.{Kept, kept_refusal, kept_refusals}
use Rattle.within.specs.Lists.{kept_of, list_within, refusal_within, fresh_points, flatten_within_evaluations}
use Rattle.within.specs.Promises.{ThinsWithin, FlattensWithin}
use Rattle.word.specs.Word.{Bounded, Rises, list_in}
use Rattle.within.proofs.Counting.{evaluations_most}
use Rattle.word.proofs.Emitted.{climbs}
use Rattle.word.proofs.Falling.{segments_pass}
use Rattle.word.proofs.CheckNumbers.{sample_other, thin_other, tells_other, first_other}
use Rattle.word.proofs.Written.{Made, thinned, flattened}

-- ---- no stop does
stop_other : (room n : ℕ) (t : Float) (c : Rgba) → stop_refusal room n t t c ≡ list_falling → ⊥
unfolding stop_refusal
stop_other room n t c h = go (leb room n) (finite t && finite_rgba c) (rw (lt_irrefl t) at h)
  where
    go : (a b : Bool) → cond a no_room (cond b (cond false list_falling 0) list_not_finite) ≡ list_falling → ⊥
    go true b h = omega arith
    go false true h = omega arith
    go false false h = omega arith

shown_other : (b : Bool) → cond b 0 not_shown ≡ list_falling → ⊥
shown_other true h = omega arith
shown_other false h = omega arith

kept_other : (g : Gradient) (room n : ℕ) (ks : List Kept) → kept_refusals g room n ks ≡ list_falling → ⊥
unfolding kept_refusals kept_refusal
kept_other g room n [] h = omega arith
kept_other g room n (k ∷ ks) h =
    first_other list_falling (first_refusal (stop_refusal room n k.t k.t (g k.t)) (cond k.shown 0 not_shown)) (kept_refusals g room (n + 1) ks)
    (first_other list_falling (stop_refusal room n k.t k.t (g k.t)) (cond k.shown 0 not_shown) (stop_other room n k.t (g k.t)) (shown_other k.shown))
    (kept_other g room (n + 1) ks) h

-- ---- an answer of a check and of a list
few_by : (check : Checked) (refusal kept spent most : ℕ) (r : Listed) → Tells check refusal kept spent r → (check ≡ checked.Fine → spent ≤ most) → evaluations_of_listed r ≤ most
few_by check refusal kept spent most r told few = rw told.evaluations (values check few)
  where
    unless : (k : ℕ) → spent ≤ most → unless_refused k spent ≤ most
    unless zero l = l
    unless (suc k) l = omega arith

    values : (c : Checked) → (c ≡ checked.Fine → spent ≤ most) → value_by c refusal spent ≤ most
    values checked.Fine l = unless refusal (l refl)
    values (checked.Refused n) l = omega arith

no_twenty : list_falling ≡ other_threshold → ⊥
no_twenty h = omega arith

-- ---- a ramp that passes has 2,048 positions at most
pub few_positions : (ramp : Ramp) → check_of ramp ≡ checked.Fine → length ramp.positions ≤ 2048
unfolding most_stops
few_positions ramp passes = go (is_gimp ramp.kind) refl
  where
    go : (b : Bool) → is_gimp ramp.kind ≡ b → length ramp.positions ≤ 2048
    go true e =
        let s = fine_shape ramp.kind ramp.positions ramp.channels ramp.codes (segments_pass ramp passes e) in
        omega (arith, s.most, s.positions)
    go false e = (valid ramp e passes).sized.most

module _ (ramp : Ramp) (asked hold : Float) where
  refusal_other : (room : ℕ) (ts : List Float) → refusal_within ramp asked hold room ts ≡ list_falling → ⊥
  unfolding refusal_within
  refusal_other room ts = kept_other (colour_of ramp) (min room most_listed) 0 (kept_of ramp asked hold ts)

  pub thin_few : (was : Held) → thin_check ramp asked was ≡ checked.Fine → length (points_in ramp was) ≤ 4609
  thin_few was fine = list_most was.rows was.counts (max_of ramp) (ready ramp asked was fine)

  pub thin_within_bounded : (was : Held) (out : Change Output) (r : Listed) → ThinsWithin ramp asked hold was out r → Bounded 10755 r
  thin_within_bounded was out r call =
      record {
        no_falling =
            tells_other list_falling (omega arith) no_twenty (thin_check ramp asked was) _ _ _ r call.told (thin_other list_falling (omega arith) no_twenty ramp asked was)
            (λ fine. refusal_other (room out.entry) (points_in ramp was));
        few =
            few_by (thin_check ramp asked was) _ _ _ 10755 r call.told
            (λ fine.
            evaluations_most ramp asked hold (points_in ramp was) (thin_few was fine) (few_positions ramp (ramp_fine ramp _ _ _ (sample_fine ramp asked was fine))));
      }

  pub fresh_few : length (fresh_points ramp asked hold) ≤ 4609
  unfolding fresh
  fresh_few = list_most _ _ (max_of ramp) (sampled_ready (colour_of ramp) (far_of asked) (min_of ramp) (max_of ramp))

  pub flatten_within_bounded : (held : Change Held) (out : Change Output) (r : Listed) → FlattensWithin ramp asked hold held out r → Bounded 24471 r
  unfolding flatten_within_evaluations
  flatten_within_bounded held out r call =
      record {
        no_falling =
            tells_other list_falling (omega arith) no_twenty (held_check ramp held.entry) _ _ _ r call.told (sample_other list_falling (omega arith) no_twenty ramp held.entry)
            (λ fine. refusal_other (room out.entry) (fresh_points ramp asked hold));
        few =
            few_by (held_check ramp held.entry) _ _ _ 24471 r call.told
            (λ fine.
            let a = evaluations_most ramp asked hold (fresh_points ramp asked hold) fresh_few (few_positions ramp (ramp_fine ramp _ _ _ fine)) in
            let b = fresh_bound ramp asked (fresh_evaluations ramp asked) refl in
            omega arith);
      }

  -- ---- the stops of a list that is done rise, unless min is max
  module _ (out out' : Output) (r : Listed) (n e : ℕ) (done : r ≡ listed.Done n e) (wide : T (lt (min_of ramp) (max_of ramp))) where
    made_rises : (check : Checked) (ts : List Float) → Made ramp asked hold check ts out out' n → Rises (list_in out' n)
    unfolding list_within
    made_rises check ts made = subst Rises (sym made.list) (climbs ramp asked hold (room out) ts made.none wide)

    pub thin_within_rises : (was : Held) → ThinsWithin ramp asked hold was (change out out') r → Rises (list_in out' n)
    thin_within_rises was call = made_rises (thin_check ramp asked was) (points_in ramp was) (thinned ramp asked hold out out' r n e done was call)

    pub flatten_within_rises : (was is : Held) → FlattensWithin ramp asked hold (change was is) (change out out') r → Rises (list_in out' n)
    flatten_within_rises was is call = made_rises (held_check ramp was) (fresh_points ramp asked hold) (flattened ramp asked hold out out' r n e done was is call)
