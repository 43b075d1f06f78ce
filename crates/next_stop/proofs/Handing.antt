-- What a step hands out, from what the functions within promise. Assumes nothing.
use mathlib.Core.Path.{◌≡◌, refl, sym, ap, ◌∙◌}
use mathlib.Core.Bool.{Bool, true, false, cond}
use mathlib.Core.List.{List}
use Prim.Native.Nat.{ℕ, zero, suc, ◌+◌, ◌*◌, ◌≤◌, ◌<◌}
use native.Mathlib.Omega.{arith}
use borrow.Author.Tests.{lt-ltb, le-ltb, ltb-true}
use lib.Dec.{ltb, eqb}
use lib.ListN.{get_or}
use lib.Ieee.{Float}
use Rattle.refusals.specs.Refusals.{bad_record}
use Rattle.float.proofs.Flags.{both_l, both_r}
use Rattle.blend.specs.declared.Stop.{Stop}
use Rattle.stops.specs.declared.Checked.{Checked}
use Rattle.stops.specs.declared.Checked.TheVariants as checked
use Rattle.stops.specs.Lent.{Ramp}
use Rattle.gradient.specs.Ramp.{max_of, colour_of}
use Rattle.sampling.specs.Lent.{Held}
use Rattle.sampling.specs.Midpoints.{Gradient, Far}
use Rattle.sampling.specs.Sampling.{far_of}
use Rattle.sampling.specs.inner.Steps.{PointAt}
use Rattle.sampling.specs.declared.Point.{Point}
use Rattle.records.specs.Fitness.{thin_check}
use Rattle.thinning.specs.Kept.{stop_refusal}
use Rattle.places.specs.Places.{point_at, InRecord}
use Rattle.places.specs.declared.RowPlace.{RowPlace}
use Rattle.next_stop.specs.Step.{is_within, placed_check, number_of_told, stop_with, list_place_of, handed_by, ended, refused_at, Next, next, first_next, handed_at, handed_from, fault_from, step_check, handed_of, handed_number, HandsOut}
use Rattle.next_stop.specs.inner.Steps.{FindsNext}
use Rattle.next_stop.specs.declared.Found.{Found}
use Rattle.next_stop.specs.declared.ListPlace.{ListPlace}
use Rattle.next_stop.specs.declared.ListPlace.TheVariants as place
use Rattle.next_stop.specs.declared.Handed.{Handed}
use Rattle.next_stop.specs.declared.Told.TheVariants as told

-- ---- a place of the record
module _ (counts : List ℕ) (p : ListPlace) where
  module _ (row index : ℕ) (e : p ≡ place.After row index) where
    -- such a place is one of the record's points
    pub within_row : is_within counts p ≡ true → row < 36
    unfolding is_within
    within_row h = ltb-true row 36 (both_l (ltb row 36) (ltb index (get_or counts row 0)) (rw e at h))

    pub within_record : is_within counts p ≡ true → InRecord counts (record { row = row; index = index })
    unfolding is_within
    within_record h =
        record {
          in_row = λ k. ltb-true index (get_or counts row 0) (both_r (ltb row 36) (ltb index (get_or counts row 0)) (rw e at h));
          in_end = λ k. absurd (k (within_row h));
        }

-- ---- the check
-- a step whose check is passed has a place of the record, and a record that may be thinned
pub both_fine : (w : Bool) (c : Checked) → placed_check w c ≡ checked.Fine → (w ≡ true) × (c ≡ checked.Fine)
unfolding placed_check
both_fine true c h = (refl, h)
both_fine false checked.Fine h = let z : ◌≡◌ {A = ℕ} 0 1 = cc in absurd (omega arith)
both_fine false (checked.Refused n) h = absurd (none (eqb n 20) h)
  where
    none : (b : Bool) → cond b (checked.Refused bad_record) (checked.Refused n) ≡ checked.Fine → ⊥
    none true k = let z : ◌≡◌ {A = ℕ} 0 1 = cc in omega arith
    none false k = let z : ◌≡◌ {A = ℕ} 0 1 = cc in omega arith

-- ---- the place to go on from
pub goes_on_after : (q : RowPlace) → q.row < 36 → place.After q.row q.index ≡ list_place_of q
unfolding list_place_of
goes_on_after q h = rw (lt-ltb q.row 36 h)

pub ends_after : (q : RowPlace) → 36 ≤ q.row → place.Ended ≡ list_place_of q
unfolding list_place_of
ends_after q h = rw (le-ltb q.row 36 h)

-- ---- what is handed out
module _ (k : ℕ) (s : Stop) (n : ℕ) (p : ListPlace) where
  pub hands_refusal : {r : ℕ} → r ≡ k → (r ≡ 0 → ⊥) → record { told = told.Refused r; evaluations = 0; place = place.Ended } ≡ handed_by k s n p
  hands_refusal e nz = rw e (by k (λ z. nz (e ∙ z)))
    where
      by : (k : ℕ) → (k ≡ 0 → ⊥) → record { told = told.Refused k; evaluations = 0; place = place.Ended } ≡ handed_by k s n p
      by zero nz = absurd (nz refl)
      by (suc k) nz = refl

  pub hands_stop : {r : ℕ} {q : ListPlace} → r ≡ k → r ≡ 0 → q ≡ p → record { told = told.Stop s; evaluations = n; place = q } ≡ handed_by k s n p
  hands_stop e z f = rw (← e, z, f)

number_by : (k : ℕ) (s : Stop) (n : ℕ) (p : ListPlace) → number_of_told (handed_by k s n p).told ≡ k
number_by zero s n p = refl
number_by (suc k) s n p = refl

module _ (g : Gradient) (far : Far) (rows : List Float) (counts : List ℕ) (max : Float) where
  -- a stop in hand with its colour
  by_point : (n : Next) (p : Point) (r : Handed) → PointAt g (point_at rows max n.at) p
      → r ≡ handed_by (stop_refusal 1 0 n.last p.t p.colour) (stop_with p.t p.colour) (3 * n.tried + 1) (list_place_of n.at)
      → r ≡ handed_at g far rows counts max n
  unfolding handed_at
  by_point n p r a e = e ∙ rw (a.1, a.0)

  pub from_end : (from : ListPlace) → from ≡ place.Ended → ended ≡ handed_from g far rows counts max from
  from_end from e = rw e

  module _ (from : ListPlace) (r : Handed) where
    pub from_start : (p : Point) → from ≡ place.Start → PointAt g (point_at rows max (record { row = 0; index = 0 })) p
        → r ≡ handed_by (stop_refusal 1 0 p.t p.t p.colour) (stop_with p.t p.colour) 1 (list_place_of (record { row = 0; index = 0 }))
        → r ≡ handed_from g far rows counts max from
    from_start p e a h =
        by_point (first_next g far rows counts max) p r a
        (h ∙ ap (λ (t : Float). handed_by (stop_refusal 1 0 t p.t p.colour) (stop_with p.t p.colour) 1 (list_place_of (record { row = 0; index = 0 }))) a.0)
        ∙ rw e

    pub from_after : (row index : ℕ) (f : Found) → from ≡ place.After row index → FindsNext g far rows counts max (record { row = row; index = index }) f
        → r ≡ handed_by (stop_refusal 1 0 f.last f.point.t f.point.colour) (stop_with f.point.t f.point.colour) (3 * f.tried + 1) (list_place_of f.place)
        → r ≡ handed_from g far rows counts max from
    from_after row index f e w h =
        by_point (next f.last f.place f.tried) f.point r w.point h
        ∙ ap (handed_at g far rows counts max) w.stop ∙ rw e

  number_from : (p : ListPlace) → number_of_told (handed_from g far rows counts max p).told ≡ fault_from g far rows counts max p
  unfolding handed_at
  number_from place.Start = number_by _ _ _ _
  number_from (place.After row index) = number_by _ _ _ _
  number_from place.Ended = refl

-- ---- the call
module _ (ramp : Ramp) (asked : Float) (was : Held) (p : ListPlace) where
  pub step_check_lem : {w : Bool} {c r : Checked} → w ≡ is_within was.counts p → c ≡ thin_check ramp asked was → r ≡ placed_check w c → step_check ramp asked was p ≡ r
  step_check_lem a b e = sym (e ∙ rw (a, b))

  module _ (e : step_check ramp asked was p ≡ checked.Fine) where
    pub thin_fine : thin_check ramp asked was ≡ checked.Fine
    thin_fine = (both_fine (is_within was.counts p) (thin_check ramp asked was) e).1

    pub place_fine : is_within was.counts p ≡ true
    place_fine = (both_fine (is_within was.counts p) (thin_check ramp asked was) e).0

  pub step_refused : (n : ℕ) → step_check ramp asked was p ≡ checked.Refused n → HandsOut ramp asked was p (refused_at p n)
  unfolding handed_of handed_number
  step_refused n e = record { handed = rw e; number = rw e }

  pub step_done : (far : Far) (max : Float) (r : Handed) → step_check ramp asked was p ≡ checked.Fine → far ≡ far_of asked → max ≡ max_of ramp
      → r ≡ handed_from (colour_of ramp) far was.rows was.counts max p → HandsOut ramp asked was p r
  unfolding handed_of handed_number
  step_done far max r e f m h =
      let h' : r ≡ handed_from (colour_of ramp) (far_of asked) was.rows was.counts (max_of ramp) p = h ∙ rw (f, m) in
      record {
        handed = h' ∙ rw e;
        number = ap (λ (x : Handed). number_of_told x.told) h' ∙ number_from (colour_of ramp) (far_of asked) was.rows was.counts (max_of ramp) p ∙ rw e;
      }
