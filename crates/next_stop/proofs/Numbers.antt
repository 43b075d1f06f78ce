-- The checks of a thinning and of a step refuse with 1 to 5 or 20, so 7, 8 and 9 are of the stops alone. Assumes nothing.
use mathlib.Core.Path.{◌≡◌, refl}
use mathlib.Core.Bool.{Bool, true, false, cond, ◌&&◌, ◌||◌}
use mathlib.Core.List.{List}
use mathlib.Core.Logic.{◌⊎◌, inl, inr}
use Prim.Native.Nat.{ℕ, zero, suc, ◌≤◌}
use native.Mathlib.Omega.{arith}
use lib.Dec.{eqb}
use lib.ListN.{length}
use lib.Ieee.{Float, inf, lt}
use lib.Ieee.Scale.{finite}
use Rattle.refusals.specs.Refusals.{other_threshold}
use Rattle.blend.specs.Finite.{all_finite}
use Rattle.stops.specs.declared.Checked.{Checked}
use Rattle.stops.specs.declared.Checked.TheVariants as checked
use Rattle.stops.specs.Lent.{Ramp}
use Rattle.stops.specs.Stops.{pos_at, colour_at, finite_rgba, shaped, each_stop, stops_check}
use Rattle.gradient.specs.Gimp.{segments, gimp_shaped, all_carried, gimp_check}
use Rattle.gradient.specs.Ramp.{is_gimp, check_of, min_of, max_of}
use Rattle.sampling.specs.Constants.{cells, record_length, marks_length}
use Rattle.sampling.specs.Lent.{Held}
use Rattle.sampling.specs.Sampling.{and_then, beyond_of, shape_check, sample_check, held_check, marks_of}
use Rattle.records.specs.Fitness.{counts_good, counts_check, same_words, marks_check, thin_check}
use Rattle.next_stop.specs.Step.{is_within, placed_check, step_check}
use Rattle.next_stop.specs.Single.{Early}
use Rattle.next_stop.specs.declared.ListPlace.{ListPlace}

fine : Early checked.Fine
fine = record { number = inl refl }

early : (n : ℕ) → 1 ≤ n → n ≤ 5 → Early (checked.Refused n)
early n l h = record { number = inr (inl (l, h)) }

-- so 7, 8 and 9 are none of its numbers
pub none_late : (n : ℕ) → Early (checked.Refused n) → 7 ≤ n → n ≤ 9 → ⊥
none_late n e l h = go e.number
  where
    go : (checked.Refused n ≡ checked.Fine) ⊎ (((1 ≤ n) × (n ≤ 5)) ⊎ (n ≡ 20)) → ⊥
    go (inl z) = let y : ◌≡◌ {A = ℕ} 0 1 = cc in absurd (omega arith)
    go (inr (inl z)) = omega (arith, z.1, l)
    go (inr (inr z)) = omega (arith, z, h)

by_test : (b : Bool) {x y : Checked} → Early x → Early y → Early (cond b x y)
by_test true p q = p
by_test false p q = q

in_turn : (x : Checked) {y : Checked} → Early x → Early y → Early (and_then x y)
in_turn checked.Fine p q = q
in_turn (checked.Refused n) p q = p

stops_early : (n i : ℕ) (last : Float) (ps cs : List Float) → Early (each_stop n i last ps cs)
unfolding each_stop
stops_early zero i last ps cs = fine
stops_early (suc n) i last ps cs =
    by_test (finite (pos_at ps i) && finite_rgba (colour_at cs i))
    (by_test (lt (pos_at ps i) last) (early 3 (omega arith) (omega arith)) (stops_early n (suc i) (pos_at ps i) ps cs))
    (early 2 (omega arith) (omega arith))

ramp_early : (ramp : Ramp) → Early (check_of ramp)
unfolding check_of gimp_check stops_check
ramp_early ramp =
    let ps = ramp.positions in
    let cs = ramp.channels in
    let ks = ramp.codes in
    by_test (is_gimp ramp.kind)
    (by_test (gimp_shaped (segments ps) (length ps) (length cs) (length ks) && all_carried ramp.kind (segments ps) 0 ps ks)
    (by_test (all_finite ps && all_finite cs) fine (early 2 (omega arith) (omega arith))) (early 1 (omega arith) (omega arith)))
    (by_test (shaped ramp.kind (length ps) (length cs) (length ks)) (stops_early (length ps) 0 (inf true) ps cs) (early 1 (omega arith) (omega arith)))

shape_early : (lo hi : Float) (rows counts marks : ℕ) → Early (shape_check lo hi rows counts marks)
unfolding shape_check
shape_early lo hi rows counts marks =
    by_test (beyond_of lo || beyond_of hi) (early 4 (omega arith) (omega arith))
    (by_test (eqb rows record_length && (eqb counts cells && eqb marks marks_length)) fine (early 5 (omega arith) (omega arith)))

pub thin_early : (ramp : Ramp) (asked : Float) (was : Held) → Early (thin_check ramp asked was)
unfolding thin_check sample_check counts_check marks_check
thin_early ramp asked was =
    in_turn (held_check ramp was) (in_turn (check_of ramp) (ramp_early ramp) (shape_early (min_of ramp) (max_of ramp) (length was.rows) (length was.counts) (length was.marks)))
    (in_turn (counts_check was.counts) (by_test (counts_good was.counts) fine (early 5 (omega arith) (omega arith)))
    (by_test (same_words was.marks (marks_of ramp asked)) fine (record { number = inr (inr refl) })))

placed_early : (within : Bool) (c : Checked) → Early c → Early (placed_check within c)
unfolding placed_check
placed_early true c e = e
placed_early false checked.Fine e = early 5 (omega arith) (omega arith)
placed_early false (checked.Refused n) e = by_test (eqb n other_threshold) (early 5 (omega arith) (omega arith)) e

pub step_early : (ramp : Ramp) (asked : Float) (was : Held) (p : ListPlace) → Early (step_check ramp asked was p)
step_early ramp asked was p = placed_early (is_within was.counts p) (thin_check ramp asked was) (thin_early ramp asked was)
