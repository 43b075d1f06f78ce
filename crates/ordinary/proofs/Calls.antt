-- A ramp whose colours are finite on its domain: flattening it is never refused, where the record has its lengths and the outputs have room for 4,609 stops; nor is thinning what a sampling of it left. Of the calls. Assumes nothing.
use mathlib.Core.Path.{◌≡◌, refl, sym, ap, ◌∙◌, subst}
use mathlib.Core.Bool.{true, false}
use mathlib.Core.List.{List}
use Prim.Native.Nat.{ℕ, ◌≤◌, ◌<◌}
use native.Mathlib.Omega.{arith}
use lib.Dec.{T}
use lib.ListN.{length}
use lib.Seq.{sets}
use lib.Ieee.{Float, binary32, fits, neg, le}
use lib.Ieee.Bits.{is_true}
use lib.Ieee.Scale.{finite}
use Rattle.float.proofs.Order as order
use Rattle.blend.specs.Channels.{colours_of}
use Rattle.blend.specs.declared.Rgba.{Rgba}
use Rattle.stops.specs.Lent.{Ramp, change}
use Rattle.stops.specs.Stops.{pos_at, colour_at, finite_rgba}
use Rattle.stops.specs.declared.Checked.TheVariants as checked
use Rattle.gradient.specs.Ramp.{min_of, max_of, colour_of}
use Rattle.sampling.specs.Constants.{farthest}
use Rattle.sampling.specs.Midpoints.{Gradient, Far}
use Rattle.sampling.specs.Cells.{edge_of, rows_of, counts_of}
use Rattle.sampling.specs.Lent.{Held}
use Rattle.sampling.specs.Sampling.{beyond_of, far_of, held_check, fresh}
use Rattle.sampling.proofs.Checks.{shape_fine, first_passes}
use Rattle.thinning.specs.Kept.{kept_of, refusal_of, list_evaluations, positions_written, channels_written}
use Rattle.linearize.specs.Lent.{Output, output_of}
use Rattle.linearize.specs.Desk.{stops_of_listed, evaluations_of_listed, points_in, room, thin_output, flatten_evaluations, flatten_output}
use Rattle.sampling.specs.Promises.{Samples}
use Rattle.sampling.specs.declared.Sampled.{Sampled}
use Rattle.sampling.specs.declared.Sampled.TheVariants as sampled
use Rattle.sampling.proofs.Answers.{Fresh, fresh_is}
use Rattle.sampling.proofs.Filling.{rows-length, counts_length}
use Rattle.records.specs.Fitness.{thin_check}
use Rattle.records.proofs.Passing.{thin_passes}
use Rattle.linearize.specs.Promises.{Thins, Flattens}
use Rattle.linearize.proofs.Checks.{ready_counts}
use Rattle.linearize.specs.declared.Listed.{Listed}
use Rattle.linearize.specs.declared.Listed.TheVariants as listed
use Rattle.linearize.proofs.Bounds.{stops_bound, list_bound}
use Rattle.linearize.proofs.Calls.{flatten_most}
use Rattle.linearize.proofs.Records.{sampled_ready}
use Rattle.places.proofs.Following.{list_some, list_most}
use Rattle.refresh.specs.AfterEdit.{Shaped}
use Rattle.ordinary.specs.Ordinary.{FiniteOnDomain, NeverRefused}
use Rattle.ordinary.proofs.Climbing.{Climbs, from_lower, item_low, item_high, in_order, kept_climb}
use Rattle.ordinary.proofs.Rising as domains
use Rattle.ordinary.proofs.Singles.{AllSingle, item_single, points_single, kept_single}
use Rattle.ordinary.proofs.LastCell.{last_cell}
use Rattle.ordinary.proofs.Unrefused.{no_refusal, two_kept, place_of, colour_of_lem}

-- ---- a list that was made of points that climb
module _ (g : Gradient) (far : Far) (ts : List Float) (a b : Float) (fa : T (finite a)) (fb : T (finite b)) (climbs : Climbs a ts b) (singles : AllSingle ts) (some : 2 ≤ length ts) (few : length ts ≤ 4609) (out : Output) (space : 4609 ≤ room out) where
  abbrev kept : List Float
  kept = kept_of g far ts

  abbrev made : Output
  made = output_of (sets out.positions 0 kept) (sets out.channels 0 (colours_of g kept))

  kept_most : length kept ≤ 4609
  kept_most = stops_bound g far ts some few

  place_at : (i : ℕ) → i < length kept → pos_at made.positions i ≡ pos_at kept i
  place_at i l = place_of g kept out.positions out.channels (omega (arith, kept_most)) (omega (arith, kept_most)) i l

  pub colour_at_lem : (i : ℕ) → i < length kept → colour_at made.channels i ≡ g (pos_at kept i)
  colour_at_lem i l = colour_of_lem g kept out.positions out.channels (omega (arith, kept_most)) (omega (arith, kept_most)) i l

  rising : Climbs a kept b
  rising = kept_climb g far a b ts climbs

  pub list_stands : (spent : ℕ) → spent ≤ 32146 → ((t : Float) → T (fits binary32 t) → T (le a t) → T (le t b) → finite_rgba (g t) ≡ true) → NeverRefused made (listed.Done (length kept) spent)
  list_stands spent h colours =
      record {
        done = refl;
        least = two_kept g far ts some;
        most = kept_most;
        few = h;
        rising = λ i j l m. rw (place_at i (omega arith), place_at j m) (in_order a b kept rising i j l m);
        finite_at = λ i l. rw (place_at i l) (is_true (finite (pos_at kept i)) (order.finite_between a (pos_at kept i) b fa fb (item_low a b kept rising i l) (item_high a b kept rising i l)));
        colour_finite = λ i l. ap finite_rgba (colour_at_lem i l) ∙ colours (pos_at kept i) (item_single kept (kept_single g far ts singles) i l) (item_low a b kept rising i l) (item_high a b kept rising i l);
      }

-- ---- the ramp
not-below : (x : Float) → T (le (neg farthest) x) → T (le x farthest) → beyond_of x ≡ false
unfolding beyond_of
not-below x h k = rw (order.not_lt_from_le x (neg farthest) h, order.not_lt_from_le farthest x k)

module _ (ramp : Ramp) (ok : FiniteOnDomain ramp) where
  abbrev lo : Float
  lo = min_of ramp

  abbrev hi : Float
  hi = max_of ramp

  pub fine : (was : Held) → Shaped was → held_check ramp was ≡ checked.Fine
  fine was s =
      let e = domains.ends lo hi ok.near in
      sym (first_passes ramp (length was.rows) (length was.counts) (length was.marks) checked.Fine lo hi ok.passes refl refl
      (shape_fine lo hi (length was.rows) (length was.counts) (length was.marks) (not-below lo e.0 (order.le_trans lo hi farthest e.1 e.2)) (not-below hi (order.le_trans (neg farthest) lo hi e.0 e.1) e.2) s.long s.many s.three))

  low_finite : T (finite lo)
  low_finite = domains.low_finite lo hi ok.near

  high_finite : T (finite hi)
  high_finite = domains.high_finite lo hi ok.near

  module _ (asked : Float) where
    abbrev ts : List Float
    ts = points_in ramp (fresh ramp asked)

    climbs : Climbs lo ts hi
    unfolding fresh
    climbs =
        from_lower lo (edge_of lo hi 0) hi ts (domains.edge_first lo hi ok.near ok.first_single)
        (domains.points_climb lo hi ok.near (colour_of ramp) (far_of asked) (last_cell lo hi ok.near ok.first_single ok.last_single (colour_of ramp) (far_of asked)))

    singles : AllSingle ts
    unfolding fresh
    singles = points_single (colour_of ramp) (far_of asked) lo hi ok.near ok.last_single

    some : 2 ≤ length ts
    unfolding fresh
    some = omega (arith, list_some (rows_of (colour_of ramp) (far_of asked) lo hi) (counts_of (colour_of ramp) (far_of asked) lo hi) hi (sampled_ready (colour_of ramp) (far_of asked) lo hi))

    few : length ts ≤ 4609
    unfolding fresh
    few = list_most (rows_of (colour_of ramp) (far_of asked) lo hi) (counts_of (colour_of ramp) (far_of asked) lo hi) hi (sampled_ready (colour_of ramp) (far_of asked) lo hi)

    unrefused : (n : ℕ) → 4609 ≤ n → refusal_of (colour_of ramp) (far_of asked) n ts ≡ 0
    unrefused n h =
        no_refusal (colour_of ramp) n lo hi low_finite high_finite ok.finite_colours (far_of asked) ts climbs singles
        (omega (arith, stops_bound (colour_of ramp) (far_of asked) ts some few))

    module _ (was is : Held) (out out' : Output) (r : Listed) (shaped : Shaped was) (space : 4609 ≤ room out) (w : Flattens ramp asked (change was is) (change out out') r) where
      answer : r ≡ listed.Done (length (kept_of (colour_of ramp) (far_of asked) ts)) (flatten_evaluations ramp asked)
      answer = w.told.answer ∙ rw (fine was shaped, unrefused (room out) space)

      outputs : out' ≡ made (colour_of ramp) (far_of asked) ts lo hi low_finite high_finite climbs singles some few out space
      unfolding flatten_output positions_written channels_written
      outputs = w.output ∙ rw (fine was shaped, unrefused (room out) space)

      spent : flatten_evaluations ramp asked ≤ 32146
      spent = omega (arith, flatten_most ramp asked was out out' r is w, ap evaluations_of_listed answer)

      pub flattened : NeverRefused out' r
      flattened = rw (answer, outputs) (list_stands (colour_of ramp) (far_of asked) ts lo hi low_finite high_finite climbs singles some few out space (flatten_evaluations ramp asked) spent ok.finite_colours)

      -- what holds of the ramp's colours holds of the colours emitted
      pub emitted : (P : Rgba → Type 0) → ((t : Float) → P (colour_of ramp t)) → (i : ℕ) → i < stops_of_listed r → P (colour_at out'.channels i)
      emitted P holds i l =
          let n : i < length (kept_of (colour_of ramp) (far_of asked) ts) = subst (λ (k : ℕ). i < k) (ap stops_of_listed answer) l in
          let e : colour_at out'.channels i ≡ colour_of ramp (pos_at (kept_of (colour_of ramp) (far_of asked) ts) i) =
          ap (λ (o : Output). colour_at o.channels i) outputs
          ∙ colour_at_lem (colour_of ramp) (far_of asked) ts lo hi low_finite high_finite climbs singles some few out space i n in
          subst P (sym e) (holds (pos_at (kept_of (colour_of ramp) (far_of asked) ts) i))

    -- ---- thinning what a sampling left
    module _ (was is : Held) (n : ℕ) (s : Sampled) (done : s ≡ sampled.Done n) (sampling : Samples ramp asked (change was is) s) where
      taken : Fresh ramp asked (change was is) n
      taken = fresh_is ramp asked (change was is) n s done sampling

      passing : thin_check ramp asked (fresh ramp asked) ≡ checked.Fine
      unfolding fresh
      passing =
          let g = colour_of ramp in
          let far = far_of asked in
          thin_passes ramp asked (fresh ramp asked) (fine (fresh ramp asked) (record { long = rows-length g far lo hi; many = counts_length g far lo hi; three = refl }))
          (ready_counts (rows_of g far lo hi) (counts_of g far lo hi) (sampled_ready g far lo hi)) refl

      module _ (out out' : Output) (r : Listed) (space : 4609 ≤ room out) (w : Thins ramp asked is (change out out') r) where
        thinning : Thins ramp asked (fresh ramp asked) (change out out') r
        thinning = rw taken.left at w

        pub thinned : NeverRefused out' r
        unfolding thin_output positions_written channels_written
        thinned =
            let g = colour_of ramp in
            let far = far_of asked in
            let none = unrefused (room out) space in
            let answer : r ≡ listed.Done (length (kept_of g far ts)) (list_evaluations g far ts) = thinning.told.answer ∙ rw (passing, none) in
            let outputs : out' ≡ made g far ts lo hi low_finite high_finite climbs singles some few out space = thinning.output ∙ rw (passing, none) in
            rw (answer, outputs)
            (list_stands g far ts lo hi low_finite high_finite climbs singles some few out space (list_evaluations g far ts) (omega (arith, list_bound g far ts some few)) ok.finite_colours)
