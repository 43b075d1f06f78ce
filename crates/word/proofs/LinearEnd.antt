-- The last stretch of an ordinary ramp, with a hard edge at max or without one: from a kept point there that is no lent position, max is shown, or the last point is, and then max. Assumes nothing.
use mathlib.Core.Path.{◌≡◌, refl, sym, ◌∙◌, subst}
use mathlib.Core.Bool.{Bool, true, false, ◌&&◌, true≢false}
use mathlib.Core.List.{List, [], ◌∷◌}
use mathlib.Core.Logic.{◌⊎◌, inl, inr}
use Prim.Native.Nat.{ℕ, zero, suc, ◌+◌, ◌-◌, ◌*◌, ◌≤◌, ◌<◌}
use native.Mathlib.Nat.{lt_of_not-le, le_antisymm}
use native.Mathlib.Decide.{dec_le}
use native.Mathlib.Omega.{arith}
use borrow.Author.Tests.{le-leb, lt-leb}
use lib.Dec.{T, leb}
use lib.ListN.{length, drop, length-drop}
use lib.Ieee.{Float, nan, le, lt}
use Rattle.float.proofs.Order.{as_T, le_trans, lt→le, not_lt_from_le, no_nan_r, le_from_not_lt}
use Rattle.blend.specs.declared.Rgba.{Rgba}
use Rattle.stops.specs.Lent.{Ramp}
use Rattle.gradient.specs.Ramp.{max_of, colour_of}
use Rattle.sampling.specs.Constants.{threshold_of}
use Rattle.sampling.specs.Midpoints.{Gradient}
use Rattle.ordinary.specs.Ordinary.{Ordinary}
use Rattle.weighed.specs.Points.{Site, site, lent_mark}
use Rattle.within.specs.Shown.{near_within, fairly, shows, point_after, shown_to, lent_left, reach_of}
use Rattle.within.specs.Kept.{lent_shown, any_shown, step_from, kept_from}
use Rattle.within.specs.Lists.{hold_of}
use Rattle.word.proofs.Singles.{Single}
use Rattle.word.proofs.Weighed.{site_in, point_in, below_max, above_all, up_to, rest_rises}
use Rattle.word.proofs.ShownSteps.{each_get}
use Rattle.word.proofs.FewStops.{left_some}
use Rattle.word.proofs.Reaches.{reach_last, max_alone}
use Rattle.word.proofs.LinearSteps.{State, Free, q, f, q_c, a_q, shows_all, fair_between, straight}

none_left : (ss : List Site) → length ss ≡ 0 → ss ≡ []
none_left [] e = refl
none_left (s ∷ ss) e = absurd (omega arith)

module _ (ramp : Ramp) (o : Ordinary ramp) (asked hold : Float) (a : Float) (rest : List Site) (w : Free ramp o asked hold a rest) where
  abbrev hi : Float
  hi = max_of ramp

  abbrev g : Gradient
  g = colour_of ramp

  abbrev near : ℕ → Rgba → Rgba → Bool
  near = near_within (threshold_of asked) (hold_of asked hold)

  abbrev next : Float
  next = q ramp o asked hold a rest w

  v : State ramp o asked hold a rest
  v = w.state

  module _ (outer : lt next hi ≡ false) (not_shown : lent_shown g near hi a rest 1 ≡ false) where
    hi_next : T (le hi next)
    hi_next = le_from_not_lt next hi (no_nan_r a next (lt→le a next (a_q ramp o asked hold a rest w))) (no_nan_r a hi (lt→le a hi (below_max hi a rest v.rising))) outer

    -- no lent position is left but max
    only_max : (f ramp o asked hold a rest w).i ≡ length rest
    only_max = le_antisymm (f ramp o asked hold a rest w).most (go (dec_le (length rest) (f ramp o asked hold a rest w).i))
      where
        go : Dec (length rest ≤ (f ramp o asked hold a rest w).i) → length rest ≤ (f ramp o asked hold a rest w).i
        go (yes l) = l
        go (no n) =
            let i = (f ramp o asked hold a rest w).i in
            let x = point_in hi rest i in
            let under : T (lt x hi) = below_max hi x (drop (suc i) rest) (rest_rises hi a rest i v.rising (lt_of_not-le n)) in
            absurd (subst T (not_lt_from_le x hi (le_trans hi next x hi_next (q_c ramp o asked hold a rest w))) under)

    -- every point that is left is shown, and max is not
    shown_up : (r : ℕ) → 1 ≤ r → r ≤ length rest → any_shown g near hi a rest r ≡ true
    unfolding any_shown shown_to
    shown_up r one l = rw (le-leb r (suc (length rest)) (omega arith)) (shows_all g near a (point_after hi rest r) rest r fair)
      where
        e : Float
        e = point_in hi rest (r - 1)

        under : T (lt e hi)
        under = below_max hi e (drop (suc (r - 1)) rest) (rest_rises hi a rest (r - 1) v.rising (omega (arith, one, l)))

        fair : (j : ℕ) → j < r → j < length rest → fairly g near a e (site_in rest j) ≡ true
        fair j i m =
            fair_between ramp o asked hold a rest w (site_in rest j).t e (site_in rest j).mark (each_get (λ s. Single s.t) rest j (site nan lent_mark) v.singles m)
            (each_get (λ s. Single s.t) rest (r - 1) (site hi lent_mark) v.singles (omega (arith, one, l))) (above_all hi a rest j v.rising m) (up_to hi a rest j (r - 1) v.rising m (omega arith))
            (le_trans e hi next (lt→le e hi under) hi_next) under

    max_not : shown_to g near hi a rest (suc (length rest)) ≡ false
    max_not = go (shown_to g near hi a rest (suc (length rest))) refl
      where
        shown_is : shown_to g near hi a rest (suc (length rest)) ≡ true → lent_shown g near hi a rest 1 ≡ true
        shown_is h = unfold lent_shown in rw (le-leb 1 (lent_left rest) (left_some rest), (f ramp o asked hold a rest w).is, only_max) h

        go : (b : Bool) → shown_to g near hi a rest (suc (length rest)) ≡ b → b ≡ false
        go true e = absurd (true≢false (sym (shown_is e) ∙ not_shown))
        go false e = refl

    past_max : (r : ℕ) → length rest < r → any_shown g near hi a rest r ≡ false
    unfolding any_shown
    past_max r l = go (dec_le r (suc (length rest)))
      where
        go : Dec (r ≤ suc (length rest)) → (leb r (suc (length rest)) && shown_to g near hi a rest r) ≡ false
        go (yes h) = let e : suc (length rest) ≡ r = omega arith in subst (λ (i : ℕ). (leb i (suc (length rest)) && shown_to g near hi a rest i) ≡ false) e (rw (le-leb (suc (length rest)) (suc (length rest)) (omega arith)) max_not)
        go (no n) = rw (lt-leb r (suc (length rest)) (lt_of_not-le n))

    -- there are points left: else max would be shown
    points : 1 ≤ length rest
    points = go (dec_le 1 (length rest))
      where
        trivial : (ss : List Site) → ss ≡ [] → shown_to g near hi a ss (suc (length ss)) ≡ true
        trivial ss e = unfold shown_to shows in rw e

        go : Dec (1 ≤ length rest) → 1 ≤ length rest
        go (yes h) = h
        go (no n) = absurd (true≢false (sym (trivial rest (none_left rest (let h = lt_of_not-le n in omega arith))) ∙ max_not))

    reached_last : reach_of (any_shown g near hi a rest) ≡ length rest
    reached_last = reach_last (any_shown g near hi a rest) (length rest) points shown_up past_max v.short

    gone : drop (length rest) rest ≡ []
    gone = none_left (drop (length rest) rest) (length-drop (length rest) rest ∙ nothing (length rest))
      where
        nothing : (n : ℕ) → n - n ≡ 0
        nothing n = omega arith

    two_more : (n : ℕ) → length (kept_from g near hi n a rest) ≤ 2
    unfolding kept_from step_from
    two_more zero = omega arith
    two_more (suc n) = rw (not_shown, reached_last, le-leb (length rest) (length rest) (omega arith), gone) (omega (arith, max_alone g near hi n (point_after hi rest (length rest))))

  pub shown_or_ends : (lent_shown g near hi a rest 1 ≡ true) ⊎ ((n : ℕ) → suc (length (kept_from g near hi n a rest)) ≤ 2 * lent_left rest + 1)
  shown_or_ends = go (lent_shown g near hi a rest 1) (lt next hi) refl refl
    where
      go : (b d : Bool) → lent_shown g near hi a rest 1 ≡ b → lt next hi ≡ d → (lent_shown g near hi a rest 1 ≡ true) ⊎ ((n : ℕ) → suc (length (kept_from g near hi n a rest)) ≤ 2 * lent_left rest + 1)
      go true d e i = inl e
      go false true e i = inl (straight ramp o asked hold a rest w (as_T _ i))
      go false false e i = inr (λ n. omega (arith, two_more i e n, left_some rest))
