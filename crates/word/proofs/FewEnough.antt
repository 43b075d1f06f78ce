-- An ordinary ramp's list fits 4,609 stops: so, with room for as many, it is never refused. Of any points of f32. Assumes nothing.
use mathlib.Core.Path.{◌≡◌, refl, sym}
use mathlib.Core.Bool.{Bool, true, false, cond, ◌&&◌, true≢false}
use mathlib.Core.List.{List, [], ◌∷◌}
use mathlib.Core.Logic.{inl, inr}
use Prim.Native.Nat.{ℕ, suc, ◌+◌, ◌*◌, ◌≤◌, ◌<◌, min}
use native.Mathlib.Omega.{arith}
use borrow.Author.Tests.{lt-leb}
use lib.Dec.{T}
use lib.ListN.{length}
use lib.Ieee.{Float, of_bits, lt}
use lib.Ieee.Scale.{finite}
use Rattle.refusals.specs.Refusals.{no_room, list_not_finite, list_falling, not_shown}
use Rattle.refusals.specs.Limits.{most_stops}
use Rattle.float.specs.F32.{f0, f1}
use Rattle.float.proofs.Order.{le_refl, no_nan_l, le_lt_trans, lt-le_trans, lt→le, le_from_eq, ge_from_eq}
use Rattle.blend.specs.declared.Rgba.{Rgba}
use Rattle.stops.specs.Lent.{Ramp}
use Rattle.stops.specs.Stops.{finite_rgba}
use Rattle.stops.proofs.Valid.{Valid}
use Rattle.gradient.specs.Ramp.{min_of, max_of, colour_of}
use Rattle.gradient.proofs.Valid.{valid}
use Rattle.sampling.specs.Constants.{threshold_of}
use Rattle.sampling.specs.Midpoints.{Gradient}
use Rattle.thinning.specs.Kept.{stop_refusal, first_refusal}
use Rattle.judge.specs.Lists.{most_listed}
use Rattle.ordinary.specs.Ordinary.{Ordinary}
use Rattle.ordinary.proofs.Classes.{ordinary_moderate}
use Rattle.weighed.specs.Points.{Site, site, sampled_mark, own_of, sites_of}
use Rattle.weighed.proofs.Merging.{rises}
use Rattle.within.specs.Shown.{near_within, lent_left}
use Rattle.within.specs.Kept.{Kept, kept_all, kept_refusal, kept_refusals}
use Rattle.within.specs.Lists.{hold_of, kept_of, refusal_within}
use Rattle.word.proofs.Singles.{Every, Single, each_own, each_merged, own_single}
use Rattle.word.proofs.Values.{min_single}
use Rattle.word.proofs.CheckNumbers.{first_other}
use Rattle.word.proofs.TameRamps.{ordinary_tame}
use Rattle.word.proofs.OnlyRoom.{only_room}
use Rattle.word.proofs.FewStops.{is_lent, left_merged, left_own, few_kept}
use Rattle.word.proofs.LentSites.{position_found}
use Rattle.word.proofs.LinearSteps.{OwnAt, State, Free, on, free}
use Rattle.word.proofs.LinearEnd.{shown_or_ends}

-- ---- 7 comes only past the room
stop_room : (room n : ℕ) (t : Float) (c : Rgba) → n < room → stop_refusal room n t t c ≡ no_room → ⊥
unfolding stop_refusal
stop_room room n t c l = rw (lt-leb room n l) (go (finite t && finite_rgba c) (lt t t))
  where
    go : (b d : Bool) → cond b (cond d list_falling 0) list_not_finite ≡ no_room → ⊥
    go true true h = omega arith
    go true false h = omega arith
    go false d h = omega arith

shown_room : (b : Bool) → cond b 0 not_shown ≡ no_room → ⊥
shown_room true h = omega arith
shown_room false h = omega arith

kept_room : (g : Gradient) (room n : ℕ) (ks : List Kept) → n + length ks ≤ room → kept_refusals g room n ks ≡ no_room → ⊥
unfolding kept_refusals kept_refusal
kept_room g room n [] l h = omega arith
kept_room g room n (k ∷ ks) l h =
    first_other no_room (first_refusal (stop_refusal room n k.t k.t (g k.t)) (cond k.shown 0 not_shown)) (kept_refusals g room (n + 1) ks)
    (first_other no_room (stop_refusal room n k.t k.t (g k.t)) (cond k.shown 0 not_shown) (stop_room room n k.t (g k.t) (omega arith)) (shown_room k.shown))
    (kept_room g room (n + 1) ks (omega arith)) h

module _ (ramp : Ramp) (o : Ordinary ramp) (asked hold : Float)
    (ts : List Float) (points : Every Single ts) (few_points : length (sites_of ramp ts) < 32768) where
  abbrev ps : List Float
  ps = ramp.positions

  abbrev lo : Float
  lo = min_of ramp

  abbrev hi : Float
  hi = max_of ramp

  ok : Valid ramp
  ok = valid ramp (rw o.linear) o.passes

  wide : T (lt lo hi)
  wide = lt-le_trans lo _ hi (le_lt_trans lo _ _ (le_from_eq _ _ o.from_zero) zero_one) (ge_from_eq _ _ o.to_one)
    where
      zero_one : T (lt f0 f1)
      zero_one = unfold lt of_bits in tt

  start : State ramp o asked hold lo (sites_of ramp ts)
  unfolding sites_of
  start =
      let n = length ts + length (own_of ps) in
      record {
        rising = rises hi n lo ts (own_of ps) wide;
        ahead = λ k l a b. position_found hi ps ts lo ok.rising k l a b;
        own = each_merged Own hi n lo ts (own_of ps) (none ts) (each_own Own ps (λ k l e. absurd (true≢false (sym e))) (λ k l e. absurd (true≢false (sym e))) (λ k l e. record { k = k; there = l; is = refl }));
        singles = each_merged (λ s. Single s.t) hi n lo ts (own_of ps) points (own_single ps o.places);
        single = min_single ramp o.passes o.places;
        short = few_points;
        low = le_refl lo (no_nan_l lo hi (lt→le lo hi wide));
      }
    where
      Own : Site → Type 0
      Own s = is_lent s ≡ true → OwnAt ramp o asked hold s.t

      none : (ts : List Float) → Every (λ t. Own (site t sampled_mark)) ts
      none [] = tt
      none (t ∷ ts) = (λ e. absurd (true≢false (sym e)), none ts)

  -- ---- two for each lent position, and four more
  pub kept_few : length (kept_of ramp asked hold ts) ≤ 2 * length ps + 4
  unfolding kept_of kept_all
  kept_few =
      let sites = sites_of ramp ts in
      let few = few_kept (colour_of ramp) (near_within (threshold_of asked) (hold_of asked hold)) hi (State ramp o asked hold) (Free ramp o asked hold) (shown_or_ends ramp o asked hold) (on ramp o asked hold)
      (free ramp o asked hold) (λ a rest w. w.state) (suc (length sites)) lo sites start in
      omega (arith, few, left)
    where
      left : lent_left (sites_of ramp ts) ≤ suc (length ps)
      left = unfold sites_of in omega (arith, left_merged hi (length ts + length (own_of ps)) lo ts (own_of ps), left_own ps)

  pub never_refused : (room : ℕ) → 4609 ≤ room → refusal_within ramp asked hold room ts ≡ 0
  unfolding refusal_within
  never_refused room wide_room =
      elim (only_room ramp asked hold (ordinary_moderate ramp o).near o.passes o.places (ordinary_tame ramp o) ts points room) [
        | inl e ↦ e
        | inr e ↦ absurd (kept_room (colour_of ramp) (min room most_listed) 0 (kept_of ramp asked hold ts) (enough room wide_room) e)
      ]
    where
      enough : (room : ℕ) → 4609 ≤ room → 0 + length (kept_of ramp asked hold ts) ≤ min room most_listed
      enough room h = let few = kept_few in let most : length ps ≤ 2048 = unfold most_stops in ok.sized.most in omega (arith, few, most)
