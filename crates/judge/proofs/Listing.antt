-- What a list must be by itself, test by test; and that the colours of one that passed are document 01's. Assumes nothing.
use mathlib.Core.Path.{◌≡◌, refl, ap, ◌∙◌, fun_ext}
use mathlib.Core.Bool.{true, false, not, ◌&&◌}
use mathlib.Core.List.{List}
use Prim.Native.Nat.{ℕ, suc, ◌-◌, ◌*◌, ◌≤◌, ◌<◌}
use native.Mathlib.Omega.{arith}
use borrow.Author.Tests.{le-leb, leb-true, eqb-true, eq-eqb, not-true}
use lib.Dec.{leb, eqb}
use lib.ListN.{length}
use lib.Ieee.{Float, lt}
use lib.Ieee.Scale.{finite}
use Rattle.float.proofs.Flags.{both_l, both_r}
use Rattle.stops.specs.Stops.{pos_at, colour_at, finite_rgba}
use Rattle.stops.specs.Place.{Rising, place_in}
use Rattle.stops.specs.Pair.{colour_in}
use Rattle.stops.specs.declared.Kind.TheVariants.{Linear}
use Rattle.stops.proofs.Same.{same_place}
use Rattle.stops.proofs.Valid.{finite_number, rises}
use Rattle.gradient.specs.Ramp.{colour_of, any_colour}
use Rattle.judge.specs.Lists.{Offer, offer_of, most_listed, sized, good_stop, first_failing, first_bad, offered_ramp}
use Rattle.judge.specs.inner.Steps.{Sound}
use Rattle.judge.proofs.Failing.{from_start, all_pass, passes_all}

-- ---- the length
module _ (n m : ℕ) where
  pub record Size : Type 0 where
    pub least : 2 ≤ n
    pub most : n ≤ most_listed
    pub four : m ≡ 4 * n

  pub size : sized n m ≡ true → Size
  unfolding sized
  size h =
      let front = both_l (leb 2 n && leb n most_listed) (eqb m (4 * n)) h in
      record {
        least = leb-true 2 n (both_l (leb 2 n) (leb n most_listed) front);
        most = leb-true n most_listed (both_r (leb 2 n) (leb n most_listed) front);
        four = eqb-true m (4 * n) (both_r (leb 2 n && leb n most_listed) (eqb m (4 * n)) h);
      }

  pub from_size : Size → sized n m ≡ true
  unfolding sized
  from_size s = simp (le-leb 2 n s.least, le-leb n most_listed s.most, eq-eqb m (4 * n) s.four)

-- ---- a stop
module _ (ps cs : List Float) (i : ℕ) where
  pub holds : finite (pos_at ps i) ≡ true → finite_rgba (colour_at cs i) ≡ true → lt (pos_at ps i) (pos_at ps (i - 1)) ≡ false → true ≡ good_stop ps cs i
  unfolding good_stop
  holds position colour h = rw (position, colour, h)

  pub record Good : Type 0 where
    pub position : finite (pos_at ps i) ≡ true
    pub colour : finite_rgba (colour_at cs i) ≡ true
    pub rises : lt (pos_at ps i) (pos_at ps (i - 1)) ≡ false

  pub good : good_stop ps cs i ≡ true → Good
  unfolding good_stop
  good h =
      let front = both_l (finite (pos_at ps i) && finite_rgba (colour_at cs i)) (not (lt (pos_at ps i) (pos_at ps (i - 1)))) h in
      record {
        position = both_l (finite (pos_at ps i)) (finite_rgba (colour_at cs i)) front;
        colour = both_r (finite (pos_at ps i)) (finite_rgba (colour_at cs i)) front;
        rises = not-true (lt (pos_at ps i) (pos_at ps (i - 1))) (both_r (finite (pos_at ps i) && finite_rgba (colour_at cs i)) (not (lt (pos_at ps i) (pos_at ps (i - 1)))) h);
      }

-- ---- all stops
pub begun : (ps cs : List Float) → first_failing (good_stop ps cs) (length ps - 0) 0 ≡ first_bad (offer_of ps cs)
unfolding first_bad
begun ps cs = from_start (good_stop ps cs) (length ps)

module _ (offer : Offer) where
  abbrev ps : List Float
  ps = offer.positions

  abbrev cs : List Float
  cs = offer.channels

  pub each_good : length ps ≤ first_bad offer → (i : ℕ) → i < length ps → Good ps cs i
  unfolding first_bad
  each_good h i l = good ps cs i (all_pass (good_stop ps cs) (length ps) 0 (omega arith) i (omega arith) (omega arith))

  pub rising : length ps ≤ first_bad offer → Rising ps
  rising h =
      rises ps (λ i l. finite_number (pos_at ps i) (each_good h i l).position)
      (λ j l. after j (each_good h (suc j) l).rises)
    where
      after : (j : ℕ) → lt (pos_at ps (suc j)) (pos_at ps (suc j - 1)) ≡ false → lt (pos_at ps (suc j)) (pos_at ps j) ≡ false
      after j e = let k : suc j - 1 ≡ j = omega arith in rw k at e

  pub sound : sized (length ps) (length cs) ≡ true → length ps ≤ first_bad offer → Sound offer
  sound s h = record { least = (size (length ps) (length cs) s).least; rising = rising h }

  pub all_good : ((i : ℕ) → i < length ps → good_stop ps cs i ≡ true) → first_bad offer ≡ length ps
  unfolding first_bad
  all_good h = passes_all (good_stop ps cs) (length ps) 0 (λ i a b. h i (omega arith)) ∙ omega arith

  -- ---- its colours
  pub offered_any : (t : Float) → colour_in Linear ps cs t (place_in ps t) ≡ any_colour (offered_ramp offer) t
  unfolding any_colour
  offered_any t = refl

  pub offered_colour : Sound offer → any_colour (offered_ramp offer) ≡ colour_of (offered_ramp offer)
  unfolding any_colour colour_of
  offered_colour w = fun_ext (λ t. ap (colour_in Linear ps cs t) (same_place ps w.least w.rising t))
