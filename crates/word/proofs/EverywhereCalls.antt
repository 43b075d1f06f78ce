-- Everywhere, of the calls: of a linear ramp with channels from 0 to 1 a list that is done, over any record that the call takes, is within the hold and 2 ^ -19 of the ramp at every f32 of the domain. Assumes nothing.
use mathlib.Core.Path.{◌≡◌, sym, subst}
use mathlib.Core.Bool.{Bool, true, false, cond}
use mathlib.Core.List.{List, [], ◌∷◌}
use Prim.Native.Nat.{ℕ, zero, suc, ◌+◌, ◌-◌}
use lib.Dec.{leb}
use lib.ListN.{length, drop, get_or}
use lib.Ieee.{Float}
use Rattle.float.proofs.Order.{le_trans, as_T}
use Rattle.stops.specs.Lent.{Ramp, change}
use Rattle.stops.specs.declared.Checked.TheVariants as checked
use Rattle.gradient.specs.Ramp.{is_gimp, check_of, min_of, max_of, colour_of}
use Rattle.sampling.specs.Constants.{threshold_of}
use Rattle.sampling.specs.Lent.{Held}
use Rattle.sampling.specs.Midpoints.{Gradient}
use Rattle.sampling.specs.Sampling.{far_of, fresh}
use Rattle.sampling.proofs.Checks.{ramp_fine}
use Rattle.records.proofs.Passing.{sample_fine}
use Rattle.linearize.specs.Lent.{Output}
use Rattle.linearize.specs.Desk.{points_in, room}
use Rattle.linearize.specs.declared.Listed.{Listed}
use Rattle.linearize.specs.declared.Listed.TheVariants as listed
use Rattle.judge.specs.Lists.{Offer}
use Rattle.refresh.specs.reach.KeptCells.{is_domain}
use Rattle.refresh.proofs.reach.Domains.{checked_domain}
use Rattle.ordinary.specs.Ordinary.{Singles}
use Rattle.ordinary.proofs.Rising.{span-finite}
use Rattle.weighed.specs.Points.{Site, site, lent_mark, own_of, sites_of}
use Rattle.weighed.proofs.Merging.{Each}
use Rattle.within.specs.Shown.{Near, near_within, point_after}
use Rattle.within.specs.Kept.{step_from, kept_from, kept_all, positions_of}
use Rattle.within.specs.Lists.{hold_of, kept_of, list_within, refusal_within, fresh_points}
use Rattle.within.specs.Promises.{ThinsWithin, FlattensWithin}
use Rattle.within.proofs.Limits.{hold_most, threshold_most}
use Rattle.word.specs.Word.{TameOnDomain, list_in}
use Rattle.word.specs.Everywhere.{UnitRamp, HeldEverywhere}
use Rattle.word.proofs.Singles.{Every, Single, every_at, each_merged, own_single}
use Rattle.word.proofs.FreshPoints.{all_single}
use Rattle.word.proofs.Values.{min_single, max_single}
use Rattle.word.proofs.Emitted.{stop_finite, least, first-is, last_is, never_fall}
use Rattle.word.proofs.Falling.{ends_rise, stops_rise}
use Rattle.word.proofs.Keeping.{keeps_word}
use Rattle.word.proofs.Written.{thinned, flattened}
use Rattle.word.proofs.ShownSteps.{each-drop}
use Rattle.word.proofs.NeverNotShown.{points_single}
use Rattle.word.proofs.TameRamps.{unit_tame}
use Rattle.word.proofs.NeverMerged.{hold_plain}
use Rattle.word.proofs.ClearDistance.{hold_small}
use Rattle.word.proofs.Ladders.{Ladder}
use Rattle.word.proofs.Everywhere.{clear, held_everywhere}

-- ---- the points kept are f32
module _ (g : Gradient) (near : Near) (max : Float) (single : Single max) where
  point_single : (ss : List Site) (k : ℕ) → Each (λ s. Single s.t) ss → Single (get_or ss k (site max lent_mark)).t
  point_single [] k w = single
  point_single (s ∷ ss) zero w = w.0
  point_single (s ∷ ss) (suc k) w = point_single ss k w.1

  kept_single : (n : ℕ) (a : Float) (rest : List Site) → Each (λ s. Single s.t) rest → Every Single (positions_of (kept_from g near max n a rest))
  unfolding kept_from
  kept_single zero a rest w = tt
  kept_single (suc n) a rest w = (point_single rest (r - 1) w, go (leb r (length rest)) (kept_single n b (drop r rest) (each-drop (λ s. Single s.t) r rest w)))
    where
      r : ℕ
      r = step_from g near max a rest

      b : Float
      b = point_after max rest r

      go : (more : Bool) → Every Single (positions_of (kept_from g near max n b (drop r rest))) → Every Single (positions_of (cond more (kept_from g near max n b (drop r rest)) []))
      go true h = h
      go false h = tt

module _ (ramp : Ramp) (asked hold : Float) (unit : UnitRamp ramp) (single : Single asked) (single' : Single hold) where
  of_stops : is_gimp ramp.kind ≡ false
  of_stops = rw unit.linear

  -- ---- of any points that are f32
  module _ (passes : check_of ramp ≡ checked.Fine) (domain : is_domain (min_of ramp) (max_of ramp) ≡ true) (ts : List Float) (points : Every Single ts) (most : ℕ) (done : refusal_within ramp asked hold most ts ≡ 0) where
    abbrev ls : List Float
    ls = positions_of (kept_of ramp asked hold ts)

    sites_single : Each (λ s. Single s.t) (sites_of ramp ts)
    unfolding sites_of
    sites_single = each_merged (λ s. Single s.t) (max_of ramp) (length ts + length (own_of ramp.positions)) (min_of ramp) ts (own_of ramp.positions) points (own_single ramp.positions unit.places)

    list_single : Every Single ls
    unfolding kept_of kept_all
    list_single = (min_single ramp passes unit.places, kept_single (colour_of ramp) (near_within (threshold_of asked) (hold_of asked hold)) (max_of ramp) (max_single ramp passes unit.places) (suc (length (sites_of ramp ts))) (min_of ramp) (sites_of ramp ts) sites_single)

    ladder : Ladder ls
    ladder =
        record {
          rising = never_fall ramp asked hold most ts done (ends_rise ramp passes);
          singles = λ i l. every_at Single ls i list_single l;
          whole = λ i l. as_T _ (stop_finite ramp asked hold most ts done i l);
          span = rw (first-is ramp asked hold most ts done, last_is ramp asked hold most ts done) (span-finite (min_of ramp) (max_of ramp) domain);
        }

    pub of_points : HeldEverywhere ramp (list_within ramp asked hold ts) (hold_of asked hold)
    unfolding list_within
    of_points =
        let plain = hold_plain asked hold single single' in
        held_everywhere ramp unit passes domain ls ladder (least ramp asked hold most ts done) (first-is ramp asked hold most ts done) (last_is ramp asked hold most ts done) (hold_of asked hold) plain
        (hold_small (hold_of asked hold) plain (le_trans _ _ _ (hold_most asked hold) (threshold_most asked))) (keeps_word ramp asked hold most ts passes unit.places done (stops_rise ramp of_stops))

  -- ---- the calls
  module _ (out out' : Output) (r : Listed) (n e : ℕ) (done : r ≡ listed.Done n e) where
    tame : check_of ramp ≡ checked.Fine → is_domain (min_of ramp) (max_of ramp) ≡ true → TameOnDomain ramp
    tame passes domain t d =
        let c = clear ramp unit passes domain t in
        record {
          red = unit_tame _ c.red.single c.red.low c.red.high;
          green = unit_tame _ c.green.single c.green.low c.green.high;
          blue = unit_tame _ c.blue.single c.blue.low c.blue.high;
          alpha = unit_tame _ c.alpha.single c.alpha.low c.alpha.high;
        }

    pub thin_within_everywhere : (was : Held) → ThinsWithin ramp asked hold was (change out out') r → Singles was.rows → HeldEverywhere ramp (list_in out' n) (hold_of asked hold)
    thin_within_everywhere was call rows =
        let made = thinned ramp asked hold out out' r n e done was call in
        let sampled = sample_fine ramp asked was made.fine in
        let passes = ramp_fine ramp _ _ _ sampled in
        let domain = checked_domain ramp _ _ _ sampled in
        subst (λ (o : Offer). HeldEverywhere ramp o (hold_of asked hold)) (sym made.list)
        (of_points passes domain (points_in ramp was) (points_single ramp asked hold unit.places (tame passes domain) was passes rows) (room out) made.none)

    pub flatten_within_everywhere : (was is : Held) → FlattensWithin ramp asked hold (change was is) (change out out') r → HeldEverywhere ramp (list_in out' n) (hold_of asked hold)
    unfolding fresh
    flatten_within_everywhere was is call =
        let made = flattened ramp asked hold out out' r n e done was is call in
        let passes = ramp_fine ramp _ _ _ made.fine in
        let domain = checked_domain ramp _ _ _ made.fine in
        subst (λ (o : Offer). HeldEverywhere ramp o (hold_of asked hold)) (sym made.list)
        (of_points passes domain (fresh_points ramp asked hold) (all_single (colour_of ramp) (far_of asked) (min_of ramp) (max_of ramp) domain (min_single ramp passes unit.places) (max_single ramp passes unit.places)) (room out) made.none)
