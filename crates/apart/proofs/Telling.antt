-- What is wrong at one depth, test by test; and the bytes and counts, depth by depth. Assumes nothing.
use mathlib.Core.Path.{◌≡◌, refl, ap, ap₂, ◌∙◌}
use mathlib.Core.Bool.{Bool, false, not, ◌&&◌}
use mathlib.Core.List.{List, [], ◌∷◌, ◌++◌}
use Prim.Native.Nat.{ℕ, zero, suc, ◌+◌, ◌-◌, ◌≤◌, ◌<◌}
use native.Mathlib.Omega.{arith}
use lib.ListN.{length, drop, set, length-set}
use lib.Ieee.{Float, lt, le}
use Rattle.slices.specs.Joined.{joined, summed}
use Rattle.slices.proofs.Joined.{length-joined, joined_next}
use Rattle.slices.proofs.Stores.{sets_next}
use Rattle.blend.specs.declared.Rgba.{Rgba}
use Rattle.stops.specs.Lent.{Ramp}
use Rattle.stops.specs.Place.{place_in}
use Rattle.stops.specs.Pair.{colour_in}
use Rattle.stops.specs.Stops.{pos_at}
use Rattle.stops.specs.declared.Kind.TheVariants.{Linear}
use Rattle.gradient.specs.Ramp.{any_colour}
use Rattle.difference.specs.Difference.{distance_of, differs}
use Rattle.sampling.specs.Midpoints.{Gradient}
use Rattle.judge.specs.Lists.{Offer, first_failing}
use Rattle.judge.specs.Verdicts.{close}
use Rattle.judge.proofs.Listing.{offered_any}
use Rattle.apart.specs.Faults.{is_moved, is_close, is_merged, fault_of, faults_of, first_merged}
use Rattle.apart.specs.inner.Steps.{most_count, seen_by, any_seen, fault_by, fault_from, byte_of, tally_next, Countable, fault_at, tally_of, Tells}
use Rattle.apart.specs.declared.told.Seen.{Seen}
use Rattle.apart.specs.declared.told.Fault.{Fault}
use Rattle.apart.specs.declared.told.Tally.{Tally}
use Rattle.apart.proofs.Counting.{how_many_most, counts_next}

-- ---- what is compared
pub near_is : (threshold : Float) (x y : Rgba) {d : Float} → d ≡ distance_of x y → le d threshold ≡ le (distance_of x y) threshold
near_is threshold x y e = ap (λ (d : Float). le d threshold) e

pub told_is : (step : Float) (x y : Rgba) {d : Float} → d ≡ distance_of x y → lt step d ≡ differs step x y
unfolding differs
told_is step x y e = ap (λ (d : Float). lt step d) e

pub seen-is : (ramp : Ramp) (offer : Offer) (t : Float) {x y : Rgba} → x ≡ any_colour ramp t
    → y ≡ colour_in Linear offer.positions offer.channels t (place_in offer.positions t) → ◌≡◌ {A = Seen} (record { ramp = x; list = y }) (any_seen ramp offer t)
seen-is ramp offer t a b = rw (a, b ∙ offered_any offer t)

-- ---- a fault, test by test
pub first_fault : (i : ℕ) (ramp list : Bool) {near n : Bool} → n ≡ near → i ≡ 0
    → ◌≡◌ {A = Fault} (record { moved = not n; close = false; merged = false }) (fault_by i near ramp list)
unfolding fault_by
first_fault i ramp list e z = rw (z, e)

pub later_fault : (i : ℕ) {near ramp list n t k m : Bool} → n ≡ near → (i ≡ 0 → ⊥) → t ≡ ramp → k ≡ list → m ≡ (t && not k)
    → ◌≡◌ {A = Fault} (record { moved = not n; close = not t; merged = m }) (fault_by i near ramp list)
unfolding fault_by
later_fault zero e later f h m = absurd (later refl)
later_fault (suc i) e later f h m = rw (m, e, f, h)

-- ---- depth by depth
module _ (g h : Gradient) (threshold step : Float) (ds : List Float) where
  -- what is found with the two colours of the depth before is what is wrong there
  fault_is : (i : ℕ) → fault_from threshold step i (seen_by g h (pos_at ds (i - 1))) (seen_by g h (pos_at ds i)) ≡ fault_at g h threshold step ds i
  unfolding fault_by is_moved is_close is_merged close
  fault_is zero = refl
  fault_is (suc j) = let k : suc j - 1 ≡ j = omega arith in rw k

  fault_here : (i : ℕ) {before here : Seen} {fault : Fault} → before ≡ seen_by g h (pos_at ds (i - 1)) → here ≡ seen_by g h (pos_at ds i)
      → fault ≡ fault_from threshold step i before here → fault ≡ fault_at g h threshold step ds i
  fault_here i p q f = f ∙ ap₂ (fault_from threshold step i) p q ∙ fault_is i

  byte_is : (i : ℕ) → byte_of (fault_at g h threshold step ds i) ≡ fault_of g h threshold step ds i
  unfolding fault_of
  byte_is i = refl

  tally_next_lem : (i : ℕ) → tally_next (tally_of g h threshold step ds i) i (fault_at g h threshold step ds i) ≡ tally_of g h threshold step ds (i + 1)
  unfolding first_merged
  tally_next_lem i = counts_next (is_moved g h threshold step ds) (is_close g h threshold step ds) (is_merged g h threshold step ds) i

  none_counted : ◌≡◌ {A = Tally} (record { moved = 0; close = 0; merged = 0; first = 0 }) (tally_of g h threshold step ds 0)
  unfolding summed first_merged first_failing
  none_counted = refl

  -- the bytes of the first i depths, and what was lent behind them
  abbrev bytes_to : List ℕ → ℕ → List ℕ
  bytes_to was i = faults_of g h threshold step ds i ++ drop i was

  bytes_next : (was : List ℕ) (i : ℕ) → i < length was → set (bytes_to was i) i (fault_of g h threshold step ds i) ≡ bytes_to was (i + 1)
  unfolding faults_of
  bytes_next was i l =
      sets_next (joined each i) (each i) was i (i + 1) (length-joined each 1 i (λ j b. refl) i (omega arith) ∙ omega arith) (omega arith) (omega arith)
      ∙ ap (λ (k : List ℕ). k ++ drop (i + 1) was) (joined_next each i)
    where
      each : ℕ → List ℕ
      each j = fault_of g h threshold step ds j ∷ []

  none_written : (was : List ℕ) → was ≡ bytes_to was 0
  unfolding faults_of joined
  none_written was = refl

  -- after i turns
  pub record Filling (was : List ℕ) (i : ℕ) (before : Seen) (tally : Tally) (out : List ℕ) : Type 0 where
    pub most : i ≤ length ds
    pub seen : before ≡ seen_by g h (pos_at ds (i - 1))
    pub counts : tally ≡ tally_of g h threshold step ds i
    pub bytes : out ≡ bytes_to was i
    pub long : length out ≡ length was

  pub started : (was : List ℕ) {first : Float} {before : Seen} → first ≡ pos_at ds 0 → before ≡ seen_by g h first
      → Filling was 0 before (record { moved = 0; close = 0; merged = 0; first = 0 }) was
  started was e p = record { most = omega arith; seen = p ∙ ap (seen_by g h) e; counts = none_counted; bytes = none_written was; long = refl }

  module _ (was : List ℕ) (i : ℕ) {before : Seen} {tally : Tally} {out : List ℕ} (w : Filling was i before tally out) where
    pub countable : i < most_count → Countable tally i
    countable l =
        rw w.counts
        (record {
          moved = how_many_most (is_moved g h threshold step ds) i;
          close = how_many_most (is_close g h threshold step ds) i;
          merged = how_many_most (is_merged g h threshold step ds) i;
          most = l;
        })

    pub filled : length ds ≤ i → Tells g h threshold step ds was out tally
    filled l =
        let e : i ≡ length ds = omega (arith, w.most) in
        record { counts = w.counts ∙ ap (tally_of g h threshold step ds) e; bytes = w.bytes ∙ ap (bytes_to was) e }

    pub turned : i < length ds → length ds ≤ length was → {here : Seen} {fault : Fault} {byte : ℕ} {next : Tally}
        → here ≡ seen_by g h (pos_at ds i) → fault ≡ fault_from threshold step i before here → byte ≡ byte_of fault → next ≡ tally_next tally i fault
        → Filling was (i + 1) here next (set out i byte)
    turned l room {here} {fault} {byte} {next} p f b n =
        let e = fault_here i w.seen p f in
        let k : i + 1 - 1 ≡ i = omega arith in
        record {
          most = omega arith;
          seen = rw k p;
          counts = n ∙ ap₂ (λ (t : Tally) (x : Fault). tally_next t i x) w.counts e ∙ tally_next_lem i;
          bytes = ap₂ (λ (o : List ℕ) (x : ℕ). set o i x) w.bytes (b ∙ ap byte_of e ∙ byte_is i) ∙ bytes_next was i (omega arith);
          long = length-set out i byte ∙ w.long;
        }
