-- Every step shows what it must, where a ramp's colours lie within ±16,382: a step of one point shows that point, and every longer one was asked. Assumes nothing.
use mathlib.Core.Path.{◌≡◌, refl, sym, subst}
use mathlib.Core.Bool.{Bool, true, false, cond}
use mathlib.Core.List.{List, [], ◌∷◌}
use mathlib.Core.Logic.{inl, inr}
use Prim.Native.Nat.{ℕ, zero, suc, ◌-◌, ◌<◌}
use native.Mathlib.Omega.{arith}
use borrow.Author.Tests.{leb-true}
use lib.Dec.{T, leb, eqb}
use lib.ListN.{length, drop, get_or, length-drop}
use lib.Ieee.{Float, le, lt, of_bits}
use lib.Ieee.Bits.{is_true}
use lib.Ieee.Scale.{finite}
use Rattle.float.specs.F32.{◌⊖◌, ◌⊘◌, f0}
use Rattle.float.proofs.Order.{lt→le, le_trans, finite_between}
use Rattle.float.proofs.Rounding.{sub_mono, sub_rising}
use Rattle.blend.specs.Blend.{linear}
use Rattle.blend.specs.declared.Rgba.{Rgba}
use Rattle.stops.specs.Lent.{Ramp}
use Rattle.gradient.specs.Ramp.{min_of, max_of, colour_of}
use Rattle.difference.specs.Difference.{distance_of}
use Rattle.sampling.specs.Constants.{least_threshold, threshold_of}
use Rattle.sampling.specs.Midpoints.{Gradient}
use Rattle.refresh.specs.reach.KeptCells.{is_domain}
use Rattle.ordinary.proofs.Rising.{low_finite, high_finite, span-finite}
use Rattle.weighed.specs.Points.{Site, site, lent_mark, sampled_mark}
use Rattle.within.specs.Shown.{off_at, near_within, fairly, shows, point_after, shown_to}
use Rattle.within.specs.Kept.{step_from, kept_from}
use Rattle.within.specs.Lists.{hold_of}
use Rattle.within.proofs.Reaching.{step_on, step_shown}
use Rattle.word.proofs.Weighed.{not-le, below_max, after, AllShown, goes_on}
use Rattle.weighed.proofs.Merging.{Rises, Each}
use Rattle.within.proofs.Limits.{threshold_least, hold_least}
use Rattle.word.specs.Word.{TameOnDomain}
use Rattle.word.proofs.Singles.{Single}
use Rattle.word.proofs.EndDistance.{share_one, end_near}

-- ---- of each point that is left
module _ (P : Site → Type 0) where
  pub each_get : (ss : List Site) (i : ℕ) (d : Site) → Each P ss → i < length ss → P (get_or ss i d)
  each_get [] i d w l = absurd (omega arith)
  each_get (s ∷ ss) zero d w l = w.0
  each_get (s ∷ ss) (suc i) d w l = each_get ss i d w.1 (omega arith)

  pub each-drop : (r : ℕ) (ss : List Site) → Each P ss → Each P (drop r ss)
  each-drop zero ss w = w
  each-drop (suc r) [] w = w
  each-drop (suc r) (s ∷ ss) w = each-drop r ss w.1

module _ (ramp : Ramp) (asked hold : Float) (domain : is_domain (min_of ramp) (max_of ramp) ≡ true) (tame : TameOnDomain ramp) where
  abbrev lo : Float
  lo = min_of ramp

  abbrev hi : Float
  hi = max_of ramp

  abbrev g : Gradient
  g = colour_of ramp

  abbrev near : ℕ → Rgba → Rgba → Bool
  near = near_within (threshold_of asked) (hold_of asked hold)

  pub off_least : (m : ℕ) → T (le least_threshold (off_at (threshold_of asked) (hold_of asked hold) m))
  off_least m = go (eqb m sampled_mark)
    where
      go : (b : Bool) → T (le least_threshold (cond b (threshold_of asked) (hold_of asked hold)))
      go true = threshold_least asked
      go false = hold_least asked hold

  -- ---- one point
  module _ (a b : Float) (ta : Single a) (tb : Single b) (from : T (le lo a)) (up : T (lt a b)) (to : T (le b hi)) where
    a_high : T (le a hi)
    a_high = le_trans a b hi (lt→le a b up) to

    b_low : T (le lo b)
    b_low = le_trans lo a b from (lt→le a b up)

    fa : T (finite a)
    fa = finite_between lo a hi (low_finite lo hi domain) (high_finite lo hi domain) from a_high

    fb : T (finite b)
    fb = finite_between lo b hi (low_finite lo hi domain) (high_finite lo hi domain) b_low to

    zero-finite : T (finite f0)
    unfolding of_bits
    zero-finite = tt

    gap_finite : T (finite (b ⊖ a))
    gap_finite =
        finite_between f0 (b ⊖ a) (hi ⊖ lo) zero-finite (span-finite lo hi domain) (sub_rising a b fa fb (lt→le a b up))
        (sub_mono b a hi lo fb fa (high_finite lo hi domain) (low_finite lo hi domain) to from)

    point_near : T (le (distance_of (g b) (linear (g a) (g b) ((b ⊖ a) ⊘ (b ⊖ a)))) least_threshold)
    point_near =
        rw (share_one a b ta tb fa fb (not-le a b up) gap_finite)
        (end_near (g a) (g b) (tame a (record { lower = from; upper = a_high })) (tame b (record { lower = b_low; upper = to })))

    point_fair : (s : Site) → s.t ≡ b → fairly g near a b s ≡ true
    unfolding fairly near_within
    point_fair s e = rw e (is_true _ (le_trans _ least_threshold (off_at (threshold_of asked) (hold_of asked hold) s.mark) point_near (off_least s.mark)))

  one_step : (a : Float) (rest : List Site) → Single a → T (le lo a) → Rises hi a rest → Each (λ s. Single s.t) rest → shown_to g near hi a rest 1 ≡ true
  unfolding shown_to shows
  one_step a [] ta from w v = refl
  one_step a (s ∷ ss) ta from w v = rw (point_fair a s.t ta v.0 from w.0 (lt→le s.t hi (below_max hi s.t ss w.1)) s refl)

  -- ---- every step
  pub shown_all : (n : ℕ) (a : Float) (rest : List Site) → length rest < n → Single a → T (le lo a) → Rises hi a rest → Each (λ s. Single s.t) rest → AllShown (kept_from g near hi n a rest)
  unfolding kept_from
  shown_all zero a rest few ta from w v = absurd (omega arith)
  shown_all (suc n) a rest few ta from w v = (first, others (leb r (length rest)) refl (shown_all n))
    where
      r : ℕ
      r = step_from g near hi a rest

      b : Float
      b = point_after hi rest r

      first : shown_to g near hi a rest r ≡ true
      first = elim (step_shown g near hi a rest) [ inl e ↦ subst (λ (k : ℕ). shown_to g near hi a rest k ≡ true) (sym e) (one_step a rest ta from w v) | inr y ↦ y ]

      others : (more : Bool) → leb r (length rest) ≡ more
          → ((a : Float) (rest : List Site) → length rest < n → Single a → T (le lo a) → Rises hi a rest → Each (λ s. Single s.t) rest → AllShown (kept_from g near hi n a rest))
          → AllShown (cond more (kept_from g near hi n b (drop r rest)) [])
      others true e f =
          let one = step_on g near hi a rest in
          let l = leb-true r (length rest) e in
          f b (drop r rest) (omega (arith, length-drop r rest, one, l, few)) (each_get (λ s. Single s.t) rest (r - 1) (site hi lent_mark) v (omega (arith, one, l)))
          (le_trans lo a b from (lt→le a b (after hi a rest (r - 1) w))) (goes_on g near hi n a rest r one few w l) (each-drop (λ s. Single s.t) r rest v)
      others false e f = tt

  -- ---- where min is max
  shown_none : (r : ℕ) (a : Float) → shown_to g near hi a [] r ≡ true
  unfolding shown_to shows
  shown_none zero a = refl
  shown_none (suc r) a = refl

  pub none_left : (a : Float) → AllShown (kept_from g near hi 1 a [])
  unfolding kept_from
  none_left a = (shown_none (step_from g near hi a []) a, go (leb (step_from g near hi a []) 0))
    where
      go : (b : Bool) → AllShown (cond b [] [])
      go true = tt
      go false = tt
