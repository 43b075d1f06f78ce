-- Of a list that is done, over any record at all, `apart` tells no depth moved that is one of the ramp's own positions or just beside one, asked with the hold in force as threshold. Assumes nothing.
use mathlib.Core.Path.{◌≡◌, refl, sym, subst}
use mathlib.Core.Bool.{Bool, true, false, cond, ◌&&◌}
use mathlib.Core.List.{List}
use mathlib.Core.Logic.{◌⊎◌, inl, inr}
use Prim.Native.Nat.{ℕ, ◌<◌}
use lib.Dec.{T}
use lib.ListN.{length}
use lib.Ieee.{Float, le, eq}
use Rattle.float.specs.F32.{f0}
use Rattle.float.specs.Number.{above_of, below_of}
use Rattle.float.proofs.Order.{as_T, le_trans, le_from_not_lt, le_from_eq, ge_from_eq, no_nan_l, no_nan_r}
use Rattle.difference.specs.Difference.{distance_of}
use Rattle.stops.specs.Lent.{Ramp, change}
use Rattle.stops.specs.Stops.{pos_at}
use Rattle.stops.proofs.Valid.{finite_number}
use Rattle.gradient.specs.Ramp.{is_gimp, min_of, max_of, colour_of}
use Rattle.sampling.specs.Constants.{threshold_of}
use Rattle.sampling.specs.Lent.{Held}
use Rattle.linearize.specs.Lent.{Output}
use Rattle.linearize.specs.declared.Listed.{Listed}
use Rattle.linearize.specs.declared.Listed.TheVariants as listed
use Rattle.judge.specs.Lists.{Offer, offered_ramp}
use Rattle.judge.specs.Conditions.{Near}
use Rattle.apart.specs.Promises.{TellsApart}
use Rattle.apart.specs.declared.told.Apart.{Apart}
use Rattle.apart.specs.declared.told.Apart.TheVariants as apart
use Rattle.apart.proofs.Theorems.{near_unmoved, near_no_one, depth_inside, told_ramp}
use Rattle.ordinary.specs.Ordinary.{Singles}
use Rattle.within.specs.Lists.{hold_of}
use Rattle.within.specs.Promises.{ThinsWithin, FlattensWithin}
use Rattle.word.specs.Word.{NearBy, InDomain, asked_at, HeldAt, KeepsWord, OwnDepth, OwnDepths, Unmoved, NeverFalling, list_in}
use Rattle.word.proofs.Falling.{ends_rise, stops_rise}
use Rattle.word.proofs.Calls.{thin_within_keeps, flatten_within_keeps}

-- ---- a position is within the domain where it is asked within it
asked_inside : (ramp : Ramp) (t : Float) → InDomain ramp (asked_at ramp t) → InDomain ramp t
asked_inside ramp t = go (is_gimp ramp.kind) (eq t f0) refl
  where
    go : (a b : Bool) → eq t f0 ≡ b → InDomain ramp (cond (a && b) f0 t) → InDomain ramp t
    go true true e d =
        let z = as_T _ e in
        record { lower = le_trans (min_of ramp) f0 t d.lower (ge_from_eq t f0 z); upper = le_trans t f0 (max_of ramp) (le_from_eq t f0 z) d.upper }
    go true false e d = d
    go false b e d = d

-- and so is each depth that `apart` took
module _ (ramp : Ramp) (his step : Float) (offer : Offer) (ds : List Float) (was is : List ℕ) (r : Apart) (call : TellsApart ramp his step offer ds was is r)
    {moved close merged first : ℕ} (told : r ≡ apart.Told moved close merged first) where
  pub depths_inside : (i : ℕ) → i < length ds → InDomain ramp (pos_at ds i)
  depths_inside i l =
      let d = depth_inside ramp his step offer ds was is r call told i l in
      let number = finite_number (pos_at ds i) d.0 in
      let ends = ends_rise ramp (told_ramp ramp his step offer ds was is r call told) in
      record {
        lower = le_from_not_lt (pos_at ds i) (min_of ramp) number (no_nan_l (min_of ramp) (max_of ramp) ends) d.1.0;
        upper = le_from_not_lt (max_of ramp) (pos_at ds i) (no_nan_r (min_of ramp) (max_of ramp) ends) number d.1.1;
      }

-- ---- a list that keeps its word, and depths of its ramp's own
module _ (ramp : Ramp) (offer : Offer) (hold : Float) (word : KeepsWord ramp offer hold) where
  held_at : (k : ℕ) → k < length ramp.positions → (t : Float)
      → (t ≡ pos_at ramp.positions k) ⊎ ((t ≡ below_of (pos_at ramp.positions k)) ⊎ (t ≡ above_of (pos_at ramp.positions k))) → HeldAt ramp offer hold t
  held_at k l t (inl e) = subst (HeldAt ramp offer hold) (sym e) (word.at_lent k l)
  held_at k l t (inr (inl e)) = subst (HeldAt ramp offer hold) (sym e) (word.just_below k l)
  held_at k l t (inr (inr e)) = subst (HeldAt ramp offer hold) (sym e) (word.just_above k l)

  pub own_near : (d : Float) → OwnDepth ramp d → InDomain ramp d → NearBy ramp offer hold d
  own_near d o inside =
      subst (NearBy ramp offer hold) (sym o.asked)
      (held_at o.k o.there o.t o.beside (asked_inside ramp o.t (subst (InDomain ramp) o.asked inside)))

  module _ (his step : Float) (force : threshold_of his ≡ hold) (ds : List Float) (own : OwnDepths ramp ds) (was is : List ℕ) (r : Apart) (call : TellsApart ramp his step offer ds was is r)
      {moved close merged first : ℕ} (told : r ≡ apart.Told moved close merged first) where
    near : (i : ℕ) → i < length ds → Near ramp his offer (pos_at ds i)
    near i l =
        subst (λ (x : Float). T (le (distance_of (colour_of ramp (pos_at ds i)) (colour_of (offered_ramp offer) (pos_at ds i))) x)) (sym force)
        (own_near (pos_at ds i) (own i l) (depths_inside ramp his step offer ds was is r call told i l))

    unmoved : Unmoved ds is moved
    unmoved =
        record {
          none = near_unmoved ramp his step offer ds was is r call told near;
          each = λ i l. near_no_one ramp his step offer ds was is r call told i l (near i l);
        }

-- of stops every lent position is asked where it stands
pub lent_own : (ramp : Ramp) → is_gimp ramp.kind ≡ false → OwnDepths ramp ramp.positions
lent_own ramp stops i l = record { k = i; t = pos_at ramp.positions i; there = l; beside = inl refl; asked = rw stops }

-- ---- of the calls; the hold in force is lent as the threshold, or any number that is in force the same
module _ (ramp : Ramp) (asked hold : Float) (out out' : Output) (r : Listed) (n e : ℕ) (done : r ≡ listed.Done n e) (singles : Singles ramp.positions)
    (his step : Float) (force : threshold_of his ≡ hold_of asked hold) (bytes bytes' : List ℕ) (q : Apart) {moved close merged first : ℕ} (told : q ≡ apart.Told moved close merged first) where
  module _ (ds : List Float) (own : OwnDepths ramp ds) (falling : NeverFalling ramp) (asking : TellsApart ramp his step (list_in out' n) ds bytes bytes' q) where
    pub thin_within_unmoved : (was : Held) → ThinsWithin ramp asked hold was (change out out') r → Unmoved ds bytes' moved
    thin_within_unmoved was call =
        unmoved ramp (list_in out' n) (hold_of asked hold) (thin_within_keeps ramp asked hold was out out' r n e call done singles falling) his step force ds own bytes bytes' q asking told

    pub flatten_within_unmoved : (was is : Held) → FlattensWithin ramp asked hold (change was is) (change out out') r → Unmoved ds bytes' moved
    flatten_within_unmoved was is call =
        unmoved ramp (list_in out' n) (hold_of asked hold) (flatten_within_keeps ramp asked hold was is out out' r n e call done singles falling) his step force ds own bytes bytes' q asking told

  -- of stops, with the lent positions as depths
  pub lent_unmoved : is_gimp ramp.kind ≡ false → TellsApart ramp his step (list_in out' n) ramp.positions bytes bytes' q
      → (was : Held) → ThinsWithin ramp asked hold was (change out out') r → Unmoved ramp.positions bytes' moved
  lent_unmoved stops asking = thin_within_unmoved ramp.positions (lent_own ramp stops) (stops_rise ramp stops) asking
