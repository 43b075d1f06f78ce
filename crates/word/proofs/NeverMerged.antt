-- Never merged: two depths at the ramp's own positions, or just beside them, that the ramp has far apart are apart in a list that is done, of any record at all; and `apart` tells no merging there. Assumes nothing.
use mathlib.Core.Path.{◌≡◌, sym, subst}
use mathlib.Core.List.{List}
use Prim.Native.Nat.{ℕ, suc, ◌-◌, ◌≤◌, ◌<◌}
use native.Mathlib.Nat.{lt_of_not-le}
use native.Mathlib.Omega.{arith}
use lib.Dec.{T}
use lib.ListN.{length, get_or}
use lib.Ieee.{Float, binary32, of_bits, le, lt}
use lib.Ieee.Bits.{of_bits-fits}
use lib.Ieee.Fits.{cond-fits}
use lib.Ieee.Scale.{finite}
use Rattle.float.specs.F32.{f0}
use Rattle.float.proofs.Order.{le_trans, no_nan_l, finite_between}
use Rattle.difference.specs.Difference.{distance_of}
use Rattle.difference.specs.Measure.{SingleColour, Plain}
use Rattle.difference.proofs.Theorems.{stays_apart, stays_apart_by}
use Rattle.stops.specs.Lent.{Ramp, change}
use Rattle.stops.specs.Stops.{pos_at}
use Rattle.gradient.specs.Ramp.{colour_of}
use Rattle.sampling.specs.Constants.{least_threshold, most_threshold, threshold_of}
use Rattle.sampling.specs.Lent.{Held}
use Rattle.linearize.specs.Lent.{Output}
use Rattle.linearize.specs.declared.Listed.{Listed}
use Rattle.linearize.specs.declared.Listed.TheVariants as listed
use Rattle.judge.specs.Lists.{Offer, offered_ramp}
use Rattle.apart.specs.Promises.{TellsApart}
use Rattle.apart.specs.declared.told.Apart.{Apart}
use Rattle.apart.specs.declared.told.Apart.TheVariants as apart
use Rattle.apart.proofs.Theorems.{four_merged}
use Rattle.ordinary.specs.Ordinary.{Singles}
use Rattle.within.specs.Lists.{hold_of, list_within}
use Rattle.within.specs.Promises.{ThinsWithin, FlattensWithin}
use Rattle.within.proofs.Limits.{hold_least, hold_most, threshold_most}
use Rattle.word.specs.Word.{NearBy, InDomain, KeepsWord, OwnDepth, OwnDepths, NeverFalling, list_in}
use Rattle.word.specs.Merging.{NeverMerges, Unmerged}
use Rattle.word.proofs.Singles.{Every, every_of, Single}
use Rattle.word.proofs.SingleColours.{colour_single, colours_single}
use Rattle.word.proofs.Depths.{own_near, depths_inside}
use Rattle.word.proofs.Calls.{thin_within_keeps, flatten_within_keeps}
use Rattle.word.proofs.Written.{thinned, flattened}

-- ---- a list that keeps its word, of f32
module _ (ramp : Ramp) (offer : Offer) (hold step : Float) (word : KeepsWord ramp offer hold) (own_colours : (t : Float) → SingleColour (colour_of ramp t)) (list_colours : (t : Float) → SingleColour (colour_of (offered_ramp offer) t))
    (plain_hold : Plain hold) (plain_step : Plain step) where
  near : (t : Float) → OwnDepth ramp t → InDomain ramp t → NearBy ramp offer hold t
  near t o d = own_near ramp offer hold word t o d

  pub never_merges : NeverMerges ramp offer hold step
  never_merges =
      record {
        far = λ s t os ot ds dt h.
            stays_apart (colour_of ramp s) (colour_of (offered_ramp offer) s) (colour_of (offered_ramp offer) t) (colour_of ramp t) (own_colours s) (list_colours s) (list_colours t) (own_colours t)
            (no_nan_l _ _ (near s os ds)) (no_nan_l _ _ (near t ot dt)) hold step plain_hold plain_step (near s os ds) (near t ot dt) h;
        by20 = λ s t os ot ds dt h.
            stays_apart_by (colour_of ramp s) (colour_of (offered_ramp offer) s) (colour_of (offered_ramp offer) t) (colour_of ramp t) (own_colours s) (list_colours s) (list_colours t) (own_colours t)
            (no_nan_l _ _ (near s os ds)) (no_nan_l _ _ (near t ot dt)) hold step plain_hold plain_step (near s os ds) (near t ot dt) h;
      }

-- ---- what `apart` tells of such a list
module _ (ramp : Ramp) (offer : Offer) (hold step : Float) (w : NeverMerges ramp offer hold step) (his : Float) (ds : List Float) (own : OwnDepths ramp ds) (was is : List ℕ) (r : Apart)
    (call : TellsApart ramp his step offer ds was is r) {moved close merged first : ℕ} (told : r ≡ apart.Told moved close merged first) where
  below_four : (n : ℕ) → (4 ≤ n → ⊥) → n < 4
  below_four n h = lt_of_not-le h

  inside : (i : ℕ) → i < length ds → InDomain ramp (pos_at ds i)
  inside = depths_inside ramp his step offer ds was is r call told

  not_merged : (i : ℕ) → suc i < length ds → T (lt step (distance_of (colour_of (offered_ramp offer) (pos_at ds i)) (colour_of (offered_ramp offer) (pos_at ds (suc i))))) → get_or is (suc i) 0 < 4
  not_merged i l apart =
      below_four (get_or is (suc i) 0)
      (λ m.
      let k : suc i - 1 ≡ i = omega arith in
      (four_merged ramp his step offer ds was is r call told (suc i) l m).list_not
      (subst (λ (j : ℕ). T (lt step (distance_of (colour_of (offered_ramp offer) (pos_at ds j)) (colour_of (offered_ramp offer) (pos_at ds (suc i)))))) (sym k) apart))

  pub unmerged : Unmerged ramp hold step ds is
  unmerged =
      record {
        far = λ i l h. let k : i < length ds = omega arith in not_merged i l (w.far _ _ (own i k) (own (suc i) l) (inside i k) (inside (suc i) l) h);
        by20 = λ i l h. let k : i < length ds = omega arith in not_merged i l (w.by20 _ _ (own i k) (own (suc i) l) (inside i k) (inside (suc i) l) h);
      }

-- ---- the hold in force is a plain f32
constants : T (finite least_threshold) × T (finite most_threshold) × T (le f0 least_threshold)
unfolding of_bits le
constants = (tt, tt, tt)

pub hold_plain : (asked hold : Float) → Single asked → Single hold → Plain (hold_of asked hold)
hold_plain asked hold sa sh =
    record {
      single = hold_single;
      whole = finite_between least_threshold (hold_of asked hold) most_threshold constants.0 constants.1 (hold_least asked hold) (le_trans _ _ _ (hold_most asked hold) (threshold_most asked));
      low = le_trans f0 least_threshold (hold_of asked hold) constants.2 (hold_least asked hold);
    }
  where
    threshold_single : Single (threshold_of asked)
    threshold_single =
        unfold threshold_of in
        cond-fits binary32 (finite asked) _ _ (cond-fits binary32 (lt asked least_threshold) _ _ (of_bits-fits binary32 _) (cond-fits binary32 (lt most_threshold asked) _ _ (of_bits-fits binary32 _) sa)) (of_bits-fits binary32 _)

    hold_single : Single (hold_of asked hold)
    hold_single =
        unfold hold_of in
        cond-fits binary32 (finite hold) _ _ (cond-fits binary32 (lt hold least_threshold) _ _ (of_bits-fits binary32 _) (cond-fits binary32 (lt (threshold_of asked) hold) _ _ threshold_single sh)) (of_bits-fits binary32 _)

-- ---- of the calls
list_single : (ramp : Ramp) → Every Single ramp.channels → (asked hold : Float) (ts : List Float) → Every Single (list_within ramp asked hold ts).channels
unfolding list_within
list_single ramp w asked hold ts = colours_single (colour_of ramp) (colour_single ramp w) _

module _ (ramp : Ramp) (asked hold step : Float) (single : Single asked) (single' : Single hold) (plain_step : Plain step) (out out' : Output) (r : Listed) (n e : ℕ) (done : r ≡ listed.Done n e)
    (places : Singles ramp.positions) (channels : Singles ramp.channels) (falling : NeverFalling ramp) where
  of_list : (ts : List Float) → list_in out' n ≡ list_within ramp asked hold ts → KeepsWord ramp (list_in out' n) (hold_of asked hold) → NeverMerges ramp (list_in out' n) (hold_of asked hold) step
  of_list ts is word =
      let own = every_of ramp.channels channels in
      never_merges ramp (list_in out' n) (hold_of asked hold) step word (colour_single ramp own)
      (colour_single (offered_ramp (list_in out' n)) (subst (λ (o : Offer). Every Single o.channels) (sym is) (list_single ramp own asked hold ts))) (hold_plain asked hold single single') plain_step

  pub thin_within_never_merges : (was : Held) → ThinsWithin ramp asked hold was (change out out') r → NeverMerges ramp (list_in out' n) (hold_of asked hold) step
  thin_within_never_merges was call = of_list _ (thinned ramp asked hold out out' r n e done was call).list (thin_within_keeps ramp asked hold was out out' r n e call done places falling)

  pub flatten_within_never_merges : (was is : Held) → FlattensWithin ramp asked hold (change was is) (change out out') r → NeverMerges ramp (list_in out' n) (hold_of asked hold) step
  flatten_within_never_merges was is call = of_list _ (flattened ramp asked hold out out' r n e done was is call).list (flatten_within_keeps ramp asked hold was is out out' r n e call done places falling)

  -- and of `apart`, asked of that list with any threshold
  module _ (his : Float) (ds : List Float) (own : OwnDepths ramp ds) (bytes bytes' : List ℕ) (q : Apart) (asking : TellsApart ramp his step (list_in out' n) ds bytes bytes' q)
      {moved close merged first : ℕ} (told : q ≡ apart.Told moved close merged first) where
    pub thin_within_unmerged : (was : Held) → ThinsWithin ramp asked hold was (change out out') r → Unmerged ramp (hold_of asked hold) step ds bytes'
    thin_within_unmerged was call = unmerged ramp (list_in out' n) (hold_of asked hold) step (thin_within_never_merges was call) his ds own bytes bytes' q asking told

    pub flatten_within_unmerged : (was is : Held) → FlattensWithin ramp asked hold (change was is) (change out out') r → Unmerged ramp (hold_of asked hold) step ds bytes'
    flatten_within_unmerged was is call = unmerged ramp (list_in out' n) (hold_of asked hold) step (flatten_within_never_merges was is call) his ds own bytes bytes' q asking told
