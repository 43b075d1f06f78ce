-- The stops of a list that is not refused: no more than the room, all finite, from min up to max. Assumes nothing.
use mathlib.Core.Path.{◌≡◌, refl, sym, ap, ◌∙◌, subst}
use mathlib.Core.Bool.{Bool, true, false, cond, ◌&&◌}
use mathlib.Core.List.{List, [], ◌∷◌}
use Prim.Native.Nat.{ℕ, zero, suc, ◌+◌, ◌-◌, ◌≤◌, ◌<◌, min}
use native.Mathlib.Omega.{arith}
use borrow.Author.Tests.{leb-false}
use lib.Dec.{T, leb}
use lib.ListN.{length}
use lib.Ieee.{Float, le, lt}
use lib.Ieee.Scale.{finite}
use Rattle.refusals.specs.Refusals.{no_room, list_not_finite, list_falling, not_shown}
use Rattle.float.proofs.Order.{lt→le, not_lt_from_le}
use Rattle.blend.specs.declared.Rgba.{Rgba}
use Rattle.stops.specs.Lent.{Ramp}
use Rattle.stops.specs.Stops.{pos_at, finite_rgba}
use Rattle.stops.specs.Place.{Rising}
use Rattle.stops.proofs.Valid.{finite_number, rises}
use Rattle.gradient.specs.Ramp.{min_of, max_of, colour_of}
use Rattle.sampling.specs.Constants.{threshold_of}
use Rattle.sampling.specs.Midpoints.{Gradient}
use Rattle.thinning.specs.Kept.{stop_refusal, first_refusal}
use Rattle.judge.specs.Lists.{most_listed}
use Rattle.weighed.specs.Points.{Site, own_of, sites_of}
use Rattle.within.specs.Shown.{Near, near_within}
use Rattle.within.specs.Kept.{Kept, step_from, kept_from, kept_all, positions_of, kept_refusal, kept_refusals}
use Rattle.within.specs.Lists.{hold_of, kept_of, refusal_within}
use Rattle.weighed.proofs.Merging as merging
use Rattle.word.proofs.Ends.{climbs_at, last_at, kept_last, kept_climbs}

pub both_zero : (a b : ℕ) → first_refusal a b ≡ 0 → (a ≡ 0) × (b ≡ 0)
both_zero zero b h = (refl, h)
both_zero (suc a) b h = absurd (omega arith)

-- ---- one stop
record Emitted (room n : ℕ) (t : Float) (c : Rgba) : Type 0 where
  fits_in : n < room
  position : finite t ≡ true
  colour : finite_rgba c ≡ true

emitted : (room n : ℕ) (t : Float) (c : Rgba) → stop_refusal room n t t c ≡ 0 → Emitted room n t c
unfolding stop_refusal
emitted room n t c h = go (leb room n) (finite t) (finite_rgba c) (lt t t) refl refl refl h
  where
    go : (a b d e : Bool) → leb room n ≡ a → finite t ≡ b → finite_rgba c ≡ d → cond a no_room (cond (b && d) (cond e list_falling 0) list_not_finite) ≡ 0 → Emitted room n t c
    go true b d e x y z h = absurd (omega arith)
    go false true true e x y z h = record { fits_in = leb-false room n x; position = y; colour = z }
    go false true false e x y z h = absurd (omega arith)
    go false false d e x y z h = absurd (omega arith)

-- ---- all of them
module _ (g : Gradient) (room : ℕ) where
  each_emitted : (n : ℕ) (ks : List Kept) → kept_refusals g room n ks ≡ 0 → (i : ℕ) → i < length (positions_of ks)
      → Emitted room (n + i) (pos_at (positions_of ks) i) (g (pos_at (positions_of ks) i))
  unfolding kept_refusals kept_refusal
  each_emitted n [] h i l = absurd (omega arith)
  each_emitted n (k ∷ ks) h zero l =
      let e : n + 0 ≡ n = omega arith in
      rw e (emitted room n k.t (g k.t) (both_zero (stop_refusal room n k.t k.t (g k.t)) (cond k.shown 0 not_shown) (both_zero (kept_refusal g room n k) (kept_refusals g room (n + 1) ks) h).0).0)
  each_emitted n (k ∷ ks) h (suc i) l =
      let e : n + suc i ≡ n + 1 + i = omega arith in
      rw e (each_emitted (n + 1) ks (both_zero (kept_refusal g room n k) (kept_refusals g room (n + 1) ks) h).1 i (omega arith))

-- ---- where there is nothing between the ends
module _ (g : Gradient) (near : Near) (max a : Float) where
  pub one_left : positions_of (kept_from g near max 1 a []) ≡ max ∷ []
  unfolding kept_from
  one_left = go (leb (step_from g near max a []) 0)
    where
      go : (b : Bool) → positions_of (record { t = max; shown = true } ∷ cond b [] []) ≡ max ∷ []
      go true = refl
      go false = refl

module _ (ramp : Ramp) (asked hold : Float) (room : ℕ) (ts : List Float) (done : refusal_within ramp asked hold room ts ≡ 0) where
  abbrev lo : Float
  lo = min_of ramp

  abbrev hi : Float
  hi = max_of ramp

  abbrev sites : List Site
  sites = sites_of ramp ts

  abbrev near : Near
  near = near_within (threshold_of asked) (hold_of asked hold)

  abbrev kept : List Kept
  kept = kept_from (colour_of ramp) near hi (suc (length sites)) lo sites

  abbrev pub ps : List Float
  ps = positions_of (kept_of ramp asked hold ts)

  all : (i : ℕ) → i < length ps → Emitted (min room most_listed) (0 + i) (pos_at ps i) (colour_of ramp (pos_at ps i))
  unfolding refusal_within
  all i l = each_emitted (colour_of ramp) (min room most_listed) 0 (kept_of ramp asked hold ts) done i l

  pub stop_finite : (i : ℕ) → i < length ps → finite (pos_at ps i) ≡ true
  stop_finite i l = (all i l).position

  pub colour_finite : (i : ℕ) → i < length ps → finite_rgba (colour_of ramp (pos_at ps i)) ≡ true
  colour_finite i l = (all i l).colour

  -- ---- how many
  pub least : 2 ≤ length ps
  unfolding kept_of kept_all kept_from
  least = omega arith

  pub most_room : length ps ≤ room
  most_room = let f = (all (length ps - 1) (omega (arith, least))).fits_in in omega (arith, least)

  pub most : length ps ≤ most_listed
  most = let f = (all (length ps - 1) (omega (arith, least))).fits_in in omega (arith, least)

  -- ---- from min to max
  pub first-is : pos_at ps 0 ≡ lo
  unfolding kept_of kept_all
  first-is = refl

  pub last_is : pos_at ps (length ps - 1) ≡ hi
  unfolding kept_of kept_all
  last_is =
      let e : suc (length (positions_of kept)) - 1 ≡ length (positions_of kept) = omega arith in
      ap (pos_at (lo ∷ positions_of kept)) e ∙ last_at lo (positions_of kept) ∙ kept_last (colour_of ramp) near hi (suc (length sites)) lo sites (omega arith)

  -- ---- each lies above the one before, unless min is max
  pub climbs : T (lt lo hi) → (j : ℕ) → suc j < length ps → T (lt (pos_at ps j) (pos_at ps (suc j)))
  unfolding kept_of kept_all sites_of
  climbs wide j l =
      climbs_at lo (positions_of kept) j (kept_climbs (colour_of ramp) near hi (suc (length sites)) lo sites (omega arith) (merging.rises hi (length ts + length (own_of ramp.positions)) lo ts (own_of ramp.positions) wide)) (omega arith)

  two : (T (lt lo hi) → ⊥) → ps ≡ lo ∷ hi ∷ []
  unfolding kept_of kept_all sites_of
  two narrow =
      ap (λ (ss : List Site). lo ∷ positions_of (kept_from (colour_of ramp) near hi (suc (length ss)) lo ss)) (merging.none hi (length ts + length (own_of ramp.positions)) lo ts (own_of ramp.positions) narrow)
      ∙ ap (λ (xs : List Float). lo ∷ xs) (one_left (colour_of ramp) near hi lo)

  pub never_fall : T (le lo hi) → Rising ps
  never_fall ordered = rises ps (λ i l. finite_number (pos_at ps i) (stop_finite i l)) (go (lt lo hi) refl)
    where
      only : (j : ℕ) → suc j < 2 → lt (pos_at (lo ∷ hi ∷ []) (suc j)) (pos_at (lo ∷ hi ∷ []) j) ≡ false
      only zero l = not_lt_from_le hi lo ordered
      only (suc j) l = absurd (omega arith)

      go : (b : Bool) → lt lo hi ≡ b → (j : ℕ) → suc j < length ps → lt (pos_at ps (suc j)) (pos_at ps j) ≡ false
      go true e j l = not_lt_from_le (pos_at ps (suc j)) (pos_at ps j) (lt→le (pos_at ps j) (pos_at ps (suc j)) (climbs (subst T (sym e) tt) j l))
      go false e j l = subst (λ (qs : List Float). (j : ℕ) → suc j < length qs → lt (pos_at qs (suc j)) (pos_at qs j) ≡ false) (sym (two (λ h. subst T e h))) only j l
