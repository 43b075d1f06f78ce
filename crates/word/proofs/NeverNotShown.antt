-- 21 never comes of a ramp whose colours lie within ±16,382, of any record of f32; of the calls. Assumes nothing.
use mathlib.Core.Path.{◌≡◌, refl, sym, subst}
use mathlib.Core.Bool.{Bool, true, false, cond, ◌&&◌, true≢false}
use mathlib.Core.List.{List, [], ◌∷◌}
use Prim.Native.Nat.{ℕ, zero, suc, ◌+◌, ◌*◌, min}
use native.Mathlib.Omega.{arith}
use lib.Dec.{T, leb}
use lib.ListN.{length, take, drop, get_or}
use lib.Ieee.{Float, le, lt}
use lib.Ieee.Scale.{finite}
use Rattle.refusals.specs.Refusals.{no_room, list_not_finite, list_falling, other_threshold, not_shown}
use Rattle.float.proofs.Order.{le_refl, no_nan_l, as_T}
use Rattle.blend.specs.declared.Rgba.{Rgba}
use Rattle.stops.specs.Lent.{Ramp, Change}
use Rattle.stops.specs.Stops.{finite_rgba}
use Rattle.stops.specs.declared.Checked.TheVariants as checked
use Rattle.gradient.specs.Ramp.{check_of, min_of, max_of, colour_of}
use Rattle.sampling.specs.Constants.{threshold_of}
use Rattle.sampling.specs.Lent.{Held}
use Rattle.sampling.specs.Midpoints.{Gradient}
use Rattle.sampling.specs.Sampling.{held_check, far_of, fresh}
use Rattle.sampling.proofs.Checks.{ramp_fine}
use Rattle.records.specs.Fitness.{thin_check}
use Rattle.records.proofs.Passing.{sample_fine}
use Rattle.slices.specs.Joined.{joined}
use Rattle.places.specs.Places.{row_points, list_of}
use Rattle.thinning.specs.Kept.{stop_refusal, first_refusal}
use Rattle.linearize.specs.Lent.{Output}
use Rattle.linearize.specs.Desk.{number_of_listed, points_in, room}
use Rattle.linearize.specs.declared.Listed.{Listed}
use Rattle.judge.specs.Lists.{most_listed}
use Rattle.refresh.specs.reach.KeptCells.{is_domain}
use Rattle.refresh.proofs.reach.Domains.{checked_domain}
use Rattle.ordinary.specs.Ordinary.{Singles}
use Rattle.ordinary.proofs.Rising.{ends}
use Rattle.weighed.specs.Points.{Site, own_of, sites_of}
use Rattle.within.specs.Shown.{near_within}
use Rattle.within.specs.Kept.{Kept, kept_from, kept_all, kept_refusal, kept_refusals}
use Rattle.within.specs.Lists.{hold_of, kept_of, refusal_within, fresh_points}
use Rattle.within.specs.Promises.{ThinsWithin, FlattensWithin}
use Rattle.word.proofs.Weighed.{AllShown}
use Rattle.weighed.proofs.Merging.{rises, none}
use Rattle.word.specs.Word.{TameOnDomain}
use Rattle.word.proofs.Singles.{Every, every_both, every_joined, every_of, Single, each_merged, own_single}
use Rattle.word.proofs.FreshPoints.{all_single}
use Rattle.word.proofs.Values.{min_single, max_single}
use Rattle.word.proofs.CheckNumbers.{sample_other, thin_other, tells_other, first_other}
use Rattle.word.proofs.ShownSteps.{shown_all, none_left}

-- ---- refusals
stop_other : (room n : ℕ) (t : Float) (c : Rgba) → stop_refusal room n t t c ≡ not_shown → ⊥
unfolding stop_refusal
stop_other room n t c h = go (leb room n) (finite t && finite_rgba c) (lt t t) h
  where
    go : (a b d : Bool) → cond a no_room (cond b (cond d list_falling 0) list_not_finite) ≡ not_shown → ⊥
    go true b d h = omega arith
    go false true true h = omega arith
    go false true false h = omega arith
    go false false d h = omega arith

shown_other : (b : Bool) → b ≡ true → cond b 0 not_shown ≡ not_shown → ⊥
shown_other true e h = omega arith
shown_other false e h = absurd (true≢false (sym e))

kept_other : (g : Gradient) (room n : ℕ) (ks : List Kept) → AllShown ks → kept_refusals g room n ks ≡ not_shown → ⊥
unfolding kept_refusals kept_refusal
kept_other g room n [] w h = omega arith
kept_other g room n (k ∷ ks) w h =
    first_other not_shown (first_refusal (stop_refusal room n k.t k.t (g k.t)) (cond k.shown 0 not_shown)) (kept_refusals g room (n + 1) ks)
    (first_other not_shown (stop_refusal room n k.t k.t (g k.t)) (cond k.shown 0 not_shown) (stop_other room n k.t (g k.t)) (shown_other k.shown w.0))
    (kept_other g room (n + 1) ks w.1) h

module _ (ramp : Ramp) (asked hold : Float) (domain : is_domain (min_of ramp) (max_of ramp) ≡ true) (passes : check_of ramp ≡ checked.Fine) (singles : Singles ramp.positions) (tame : TameOnDomain ramp)
    (ts : List Float) (points : Every Single ts) where
  abbrev least : Float
  least = min_of ramp

  abbrev most : Float
  most = max_of ramp

  abbrev own : List Site
  own = own_of ramp.positions

  pub all_shown : AllShown (kept_of ramp asked hold ts)
  unfolding kept_of kept_all sites_of
  all_shown = (refl, go (lt least most) refl)
    where
      sites : List Site
      sites = sites_of ramp ts

      from : T (le least least)
      from = le_refl least (no_nan_l least most (ends least most domain).1)

      go : (b : Bool) → lt least most ≡ b → AllShown (kept_from (colour_of ramp) (near_within (threshold_of asked) (hold_of asked hold)) most (suc (length (sites_of ramp ts))) least (sites_of ramp ts))
      go true e =
          unfold sites_of in
          shown_all ramp asked hold domain tame (suc (length (sites_of ramp ts))) least (sites_of ramp ts) (omega arith) (min_single ramp passes singles) from
          (rises most (length ts + length own) least ts own (as_T _ e))
          (each_merged (λ s. Single s.t) most (length ts + length own) least ts own points (own_single ramp.positions singles))
      go false e =
          unfold sites_of in
          subst (λ (ss : List Site). AllShown (kept_from (colour_of ramp) (near_within (threshold_of asked) (hold_of asked hold)) most (suc (length ss)) least ss))
          (sym (none most (length ts + length own) least ts own (λ h. subst T e h))) (none_left ramp asked hold domain tame least)

  pub never_not_shown : (room : ℕ) → refusal_within ramp asked hold room ts ≡ not_shown → ⊥
  unfolding refusal_within
  never_not_shown room = kept_other (colour_of ramp) (min room most_listed) 0 (kept_of ramp asked hold ts) all_shown

-- ---- the calls
every_take : (k : ℕ) (l : List Float) → Every Single l → Every Single (take k l)
every_take zero l w = tt
every_take (suc k) [] w = tt
every_take (suc k) (x ∷ l) w = (w.0, every_take k l w.1)

every_drop : (k : ℕ) (l : List Float) → Every Single l → Every Single (drop k l)
every_drop zero l w = w
every_drop (suc k) [] w = tt
every_drop (suc k) (x ∷ l) w = every_drop k l w.1

no_twenty : not_shown ≡ other_threshold → ⊥
no_twenty h = omega arith

module _ (ramp : Ramp) (asked hold : Float) (singles : Singles ramp.positions) (tame : TameOnDomain ramp) where
  pub points_single : (was : Held) → check_of ramp ≡ checked.Fine → Singles was.rows → Every Single (points_in ramp was)
  unfolding list_of
  points_single was passes rows =
      every_both Single (joined (row_points was.rows was.counts) 36) (max_of ramp ∷ [])
      (every_joined Single (row_points was.rows was.counts) 36 (λ i l. every_take (get_or was.counts i 0) (drop (i * 128) was.rows) (every_drop (i * 128) was.rows (every_of was.rows rows))))
      (max_single ramp passes singles, tt)

  pub thin_within_never_21 : (was : Held) (out : Change Output) (r : Listed) → ThinsWithin ramp asked hold was out r → Singles was.rows → number_of_listed r ≡ not_shown → ⊥
  thin_within_never_21 was out r call rows h =
      tells_other not_shown (omega arith) no_twenty (thin_check ramp asked was) _ _ _ r call.told (thin_other not_shown (omega arith) no_twenty ramp asked was)
      (λ fine.
      let sampled = sample_fine ramp asked was fine in
      let passes = ramp_fine ramp _ _ _ sampled in
      never_not_shown ramp asked hold (checked_domain ramp _ _ _ sampled) passes singles tame (points_in ramp was) (points_single was passes rows) (room out.entry)) h

  pub flatten_within_never_21 : (held : Change Held) (out : Change Output) (r : Listed) → FlattensWithin ramp asked hold held out r → number_of_listed r ≡ not_shown → ⊥
  unfolding fresh
  flatten_within_never_21 held out r call h =
      tells_other not_shown (omega arith) no_twenty (held_check ramp held.entry) _ _ _ r call.told (sample_other not_shown (omega arith) no_twenty ramp held.entry)
      (λ fine.
      let passes = ramp_fine ramp _ _ _ fine in
      let domain = checked_domain ramp _ _ _ fine in
      let points = all_single (colour_of ramp) (far_of asked) (min_of ramp) (max_of ramp) domain (min_single ramp passes singles) (max_single ramp passes singles) in
      never_not_shown ramp asked hold domain passes singles tame (fresh_points ramp asked hold) points (room out.entry)) h
