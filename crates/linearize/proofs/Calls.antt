-- The calls' promises: how many evaluations and stops an answer can tell. Assumes nothing.
use mathlib.Core.Path.{◌≡◌, refl}
use mathlib.Core.List.{List, [], ◌∷◌}
use Prim.Native.Nat.{ℕ, zero, suc, ◌+◌, ◌≤◌}
use native.Mathlib.Omega.{arith}
use lib.ListN.{length, get_or}
use lib.Ieee.{Float}
use Rattle.float.specs.F32.{f0}
use Rattle.stops.specs.declared.Checked.{Checked}
use Rattle.stops.specs.declared.Checked.TheVariants as checked
use Rattle.stops.specs.Lent.{Ramp, change}
use Rattle.gradient.specs.Ramp.{min_of, max_of, colour_of}
use Rattle.sampling.specs.Lent.{Held}
use Rattle.linearize.specs.Lent.{Output}
use Rattle.sampling.specs.Cells.{rows_of, counts_of}
use Rattle.places.specs.Places.{list_of}
use Rattle.sampling.specs.Midpoints.{Gradient, Far}
use Rattle.thinning.specs.Kept.{kept_of, stop_refusal, first_refusal, refusal_from, refusal_of, list_evaluations}
use Rattle.sampling.specs.Sampling.{far_of, held_check, fresh, fresh_evaluations}
use Rattle.linearize.specs.Desk.{evaluations_of_listed, stops_of_listed, value_by, points_in, room, flatten_evaluations}
use Rattle.records.specs.Fitness.{thin_check}
use Rattle.linearize.specs.Promises.{Thins, Flattens}
use Rattle.linearize.specs.declared.Listed.{Listed}
use Rattle.sampling.proofs.Bounds.{sampling_bound}
use Rattle.linearize.proofs.Bounds.{list_bound}
use Rattle.linearize.proofs.Records.{sampled_ready}
use Rattle.places.proofs.Following.{list_some, list_most}
use Rattle.linearize.proofs.Checks.{ready}
use Rattle.thinning.proofs.Stops.{has_room}

value_most : (check : Checked) (k n most : ℕ) → (check ≡ checked.Fine → n ≤ most) → value_by check k n ≤ most
value_most checked.Fine zero n most h = h refl
value_most checked.Fine (suc k) n most h = omega arith
value_most (checked.Refused r) k n most h = omega arith

-- as many stops as are not refused have room
both_zero : (a b : ℕ) → first_refusal a b ≡ 0 → (a ≡ 0) × (b ≡ 0)
both_zero zero b h = (refl, h)
both_zero (suc a) b h = absurd (omega arith)

stops_room : (g : Gradient) (room n : ℕ) (last : Float) (ts : List Float) → n ≤ room → refusal_from g room n last ts ≡ 0 → n + length ts ≤ room
unfolding refusal_from
stops_room g room n last [] h z = omega arith
stops_room g room n last (t ∷ ts) h z =
    let b = both_zero (stop_refusal room n last t (g t)) (refusal_from g room (n + 1) t ts) z in
    let k = has_room room n last t (g t) b.0 in
    omega (arith, stops_room g room (n + 1) t ts (omega arith) b.1)

pub kept_room : (g : Gradient) (far : Far) (room : ℕ) (ts : List Float) → refusal_of g far room ts ≡ 0 → length (kept_of g far ts) ≤ room
unfolding refusal_of
kept_room g far room ts z = omega (arith, stops_room g room 0 (get_or ts 0 f0) (kept_of g far ts) (omega arith) z)

value_room : (check : Checked) (k n room : ℕ) → (k ≡ 0 → n ≤ room) → value_by check k n ≤ room
value_room checked.Fine zero n room h = h refl
value_room checked.Fine (suc k) n room h = omega arith
value_room (checked.Refused r) k n room h = omega arith

module _ (ramp : Ramp) (asked : Float) (was : Held) where
  module _ (out out' : Output) (r : Listed) where
    -- ---- thinning: 13,821 + 4,609 at most
    module _ (w : Thins ramp asked was (change out out') r) where
      pub thin_most : evaluations_of_listed r ≤ 18430
      thin_most =
          omega (
            arith,
            w.told.evaluations,
            value_most (thin_check ramp asked was) (refusal_of (colour_of ramp) (far_of asked) (room out) (points_in ramp was))
                (list_evaluations (colour_of ramp) (far_of asked) (points_in ramp was)) 18430
                (λ e. let ok = ready ramp asked was e in
                list_bound (colour_of ramp) (far_of asked) (points_in ramp was) (omega (arith, list_some was.rows was.counts (max_of ramp) ok)) (list_most was.rows was.counts (max_of ramp) ok)),
          )

      pub thin_room : stops_of_listed r ≤ room out
      thin_room =
          let ts = points_in ramp was in
          omega (
            arith,
            w.told.stops,
            value_room (thin_check ramp asked was) (refusal_of (colour_of ramp) (far_of asked) (room out) ts)
                (length (kept_of (colour_of ramp) (far_of asked) ts)) (room out) (kept_room (colour_of ramp) (far_of asked) (room out) ts),
          )

    -- ---- both: 32,146 at most
    module _ (is : Held) (w : Flattens ramp asked (change was is) (change out out') r) where
      flattening_most : flatten_evaluations ramp asked ≤ 32146
      unfolding flatten_evaluations fresh_evaluations fresh
      flattening_most =
          let g = colour_of ramp in
          let far = far_of asked in
          let lo = min_of ramp in
          let hi = max_of ramp in
          let ok = sampled_ready g far lo hi in
          let ts = list_of (rows_of g far lo hi) (counts_of g far lo hi) hi in
          omega (arith, sampling_bound g far lo hi, list_bound g far ts (omega (arith, list_some (rows_of g far lo hi) (counts_of g far lo hi) hi ok)) (list_most (rows_of g far lo hi) (counts_of g far lo hi) hi ok))

      pub flatten_most : evaluations_of_listed r ≤ 32146
      flatten_most =
          omega (
            arith,
            w.told.evaluations,
            value_most (held_check ramp was) (refusal_of (colour_of ramp) (far_of asked) (room out) (points_in ramp (fresh ramp asked)))
                (flatten_evaluations ramp asked) 32146 (λ e. flattening_most),
          )

      pub flatten_room : stops_of_listed r ≤ room out
      flatten_room =
          let ts = points_in ramp (fresh ramp asked) in
          omega (
            arith,
            w.told.stops,
            value_room (held_check ramp was) (refusal_of (colour_of ramp) (far_of asked) (room out) ts)
                (length (kept_of (colour_of ramp) (far_of asked) ts)) (room out) (kept_room (colour_of ramp) (far_of asked) (room out) ts),
          )
