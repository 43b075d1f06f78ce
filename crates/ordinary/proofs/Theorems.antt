-- The promise for ordinary ramps, and for wider classes, of the calls: of any results that the contracts of sampling, thinning and flattening allow. Assumes nothing.
use mathlib.Core.Path.{◌≡◌, sym, ap, ◌∙◌}
use mathlib.Core.Bool.{true, ◌&&◌}
use mathlib.Core.Logic.{inl, inr}
use Prim.Native.Nat.{ℕ, ◌+◌, ◌≤◌, ◌<◌}
use lib.Dec.{T}
use lib.ListN.{length}
use lib.Ieee.{Float, binary32, fits}
use Rattle.float.proofs.Flags.{both_r}
use Rattle.refusals.specs.Refusals.{list_falling}
use Rattle.stops.specs.Lent.{Ramp, change}
use Rattle.stops.specs.declared.Checked.{Checked}
use Rattle.stops.specs.declared.Checked.TheVariants as checked
use Rattle.gradient.specs.Ramp.{min_of, max_of, colour_of}
use Rattle.gradient.proofs.Valid.{valid}
use Rattle.sampling.specs.Constants.{cells, depth}
use Rattle.sampling.specs.Midpoints.{Gradient, Far}
use Rattle.sampling.specs.Cells.{edge_of, rows_of, counts_of}
use Rattle.sampling.specs.Lent.{Held}
use Rattle.sampling.specs.Sampling.{far_of, held_check, fresh}
use Rattle.sampling.specs.Promises.{Samples}
use Rattle.sampling.specs.declared.Sampled.{Sampled}
use Rattle.sampling.specs.declared.Sampled.TheVariants as sampled
use Rattle.thinning.specs.Kept.{refusal_of}
use Rattle.linearize.specs.Lent.{Output}
use Rattle.places.specs.Places.{list_of}
use Rattle.linearize.specs.Desk.{number_of_listed, number_by, points_in, room}
use Rattle.linearize.specs.Promises.{Thins, Flattens}
use Rattle.linearize.specs.declared.Listed.{Listed}
use Rattle.refresh.specs.reach.Stretch.{outside_of, mids_outside, clear_of, cell_clear}
use Rattle.refresh.specs.reach.KeptCells.{is_domain}
use Rattle.refresh.proofs.reach.Domains.{checked_domain}
use Rattle.refresh.specs.declared.reach.stretch.Stretch.{Stretch}
use Rattle.refresh.proofs.reach.Kept.{before_cell, after_cell}
use Rattle.refresh.specs.AfterEdit.{Shaped}
use Rattle.ordinary.specs.Ordinary.{Ordinary, Moderate, FiniteOnDomain, NeverRefused, NeverFalls, UnitColour, WithinUnit, OneOuterSide, NoMidpointInside}
use Rattle.ordinary.proofs.Climbing.{in_order}
use Rattle.ordinary.proofs.Rising.{points_climb}
use Rattle.ordinary.proofs.LastCell.{last_cell}
use Rattle.ordinary.proofs.Unrefused.{not_nine}
use Rattle.ordinary.proofs.Everywhere.{no_segments, unit_everywhere}
use Rattle.ordinary.proofs.Calls.{flattened, thinned, emitted}
use Rattle.ordinary.proofs.Classes.{span, moderate_finite, ordinary_moderate}

-- ---- flattening, which is a fresh sampling and then its list; the threshold is any f32
module _ (ramp : Ramp) (asked : Float) (was is : Held) (out out' : Output) (r : Listed) (shaped : Shaped was) (space : 4609 ≤ room out) (call : Flattens ramp asked (change was is) (change out out') r) where
  -- a ramp of any kind, whose colours are finite on its domain
  pub finite_never_refused : FiniteOnDomain ramp → NeverRefused out' r
  finite_never_refused ok = flattened ramp ok asked was is out out' r shaped space call

  -- a linear, smoothstep or sharp ramp of moderate channels
  pub moderate_never_refused : Moderate ramp → NeverRefused out' r
  moderate_never_refused ok = finite_never_refused (moderate_finite ramp ok)

  -- an ordinary ramp
  pub ordinary_never_refused : Ordinary ramp → NeverRefused out' r
  ordinary_never_refused o = moderate_never_refused (ordinary_moderate ramp o)

  -- and each of its channels that is emitted is within 0 to 1
  pub ordinary_within : Ordinary ramp → WithinUnit out' r
  ordinary_within o =
      let ok = ordinary_moderate ramp o in
      let sure = valid ramp (no_segments ramp.kind ok.only_pairs) ok.passes in
      emitted ramp (moderate_finite ramp ok) asked was is out out' r shaped space call UnitColour (unit_everywhere ramp sure ok.places (span ramp ok) o.linear o.within o.channels)

-- ---- thinning what a sampling left
module _ (ramp : Ramp) (asked : Float) (was is : Held) (n : ℕ) (s : Sampled) (done : s ≡ sampled.Done n) (sampling : Samples ramp asked (change was is) s) (out out' : Output) (r : Listed) (space : 4609 ≤ room out) (call : Thins ramp asked is (change out out') r) where
  pub finite_thinned : FiniteOnDomain ramp → NeverRefused out' r
  finite_thinned ok = thinned ramp ok asked was is n s done sampling out out' r space call

  pub ordinary_thinned : Ordinary ramp → NeverRefused out' r
  ordinary_thinned o = finite_thinned (moderate_finite ramp (ordinary_moderate ramp o))

-- ---- the points of a fresh sampling never fall, whatever the colours are and what is far: 9 cannot come of them
pub fresh_never_falls : (g : Gradient) (far : Far) (lo hi : Float) → is_domain lo hi ≡ true → T (fits binary32 lo) → T (fits binary32 hi) → NeverFalls (list_of (rows_of g far lo hi) (counts_of g far lo hi) hi)
fresh_never_falls g far lo hi domain fl fh i j l m =
    in_order (edge_of lo hi 0) hi (list_of (rows_of g far lo hi) (counts_of g far lo hi) hi) (points_climb lo hi domain g far (last_cell lo hi domain fl fh g far)) i j l m

-- so flattening is never refused with 9, whatever the room is: of any ramp that refusals 1 to 5 let pass
pub never_falling : (ramp : Ramp) (asked : Float) (was is : Held) (out out' : Output) (r : Listed) → Flattens ramp asked (change was is) (change out out') r
    → held_check ramp was ≡ checked.Fine → T (fits binary32 (min_of ramp)) → T (fits binary32 (max_of ramp)) → number_of_listed r ≡ list_falling → ⊥
unfolding fresh
never_falling ramp asked was is out out' r call fine fl fh e =
    let lo = min_of ramp in
    let hi = max_of ramp in
    let domain = checked_domain ramp (length was.rows) (length was.counts) (length was.marks) fine in
    not_nine (colour_of ramp) (room out) hi (far_of asked) (edge_of lo hi 0) (points_in ramp (fresh ramp asked)) (points_climb lo hi domain (colour_of ramp) (far_of asked) (last_cell lo hi domain fl fh (colour_of ramp) (far_of asked)))
    (ap (λ (c : Checked). number_by c (refusal_of (colour_of ramp) (far_of asked) (room out) (points_in ramp (fresh ramp asked)))) (sym fine) ∙ sym call.told.number ∙ e)

-- ---- for any domain within ±1e38, a cell whose two ends are on one and the same outer side of the stretch has no midpoint inside it
module _ (s : Stretch) (lo hi : Float) (domain : is_domain lo hi ≡ true) (i : ℕ) (l : i < cells) where
  clear_mids : cell_clear (outside_of s) lo hi i ≡ true → NoMidpointInside s lo hi i
  unfolding cell_clear clear_of
  clear_mids h =
      let out = outside_of s in
      let t0 = edge_of lo hi i in
      let t1 = edge_of lo hi (i + 1) in
      both_r (out t1) (mids_outside out depth t0 t1) (both_r (out t0) (out t1 && mids_outside out depth t0 t1) h)

  pub no_midpoint_inside : OneOuterSide s lo hi i → NoMidpointInside s lo hi i
  no_midpoint_inside (inl h) = clear_mids (before_cell s lo hi domain i l h.0 h.1)
  no_midpoint_inside (inr h) = clear_mids (after_cell s lo hi domain i l h.0 h.1)
