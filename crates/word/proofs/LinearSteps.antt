-- An ordinary ramp: from a kept point that is no lent position the next lent one is always shown, where it lies inside the domain. Assumes nothing.
use mathlib.Core.Path.{◌≡◌, refl, sym, ap, ◌∙◌, subst}
use mathlib.Core.Bool.{Bool, true, false, true≢false}
use mathlib.Core.List.{List, [], ◌∷◌}
use Prim.Native.Nat.{ℕ, zero, suc, ◌-◌, ◌≤◌, ◌<◌}
use native.Mathlib.Nat.{lt_of_not-le}
use native.Mathlib.Decide.{dec_le}
use native.Mathlib.Omega.{arith}
use borrow.Author.Tests.{le-leb}
use lib.Dec.{T}
use lib.ListN.{length, drop, take, get_or, length-drop}
use lib.Ieee.{Float, nan, binary32, of_bits, le, lt, eq, is_nan}
use lib.Ieee.Bits.{is_true}
use Rattle.float.specs.F32.{f0}
use Rattle.float.proofs.Order.{as_T, le_trans, lt→le, le_antisym, le_refl, no_nan_l, no_nan_r, le_from_not_lt, le_lt_trans, lt-le_trans, le_from_eq, ge_from_eq}
use Rattle.float.proofs.UnitsOrder.{same_value}
use Rattle.blend.specs.declared.Rgba.{Rgba}
use Rattle.stops.specs.Lent.{Ramp}
use Rattle.stops.specs.Stops.{pos_at}
use Rattle.stops.specs.Place.{first_at}
use Rattle.stops.proofs.Valid.{Valid, first_le, first_pos}
use Rattle.stops.proofs.Choice.{first_reaches, before_first}
use Rattle.gradient.specs.Ramp.{min_of, max_of, colour_of}
use Rattle.gradient.proofs.Valid.{valid}
use Rattle.sampling.specs.Constants.{least_threshold, threshold_of}
use Rattle.sampling.specs.Midpoints.{Gradient}
use Rattle.ordinary.specs.Ordinary.{Ordinary}
use Rattle.ordinary.proofs.Colours.{Past}
use Rattle.ordinary.proofs.Classes.{ordinary_moderate}
use Rattle.weighed.specs.Points.{Site, site, lent_mark}
use Rattle.weighed.proofs.Merging.{Rises, Each}
use Rattle.within.specs.Shown.{near_within, off_at, fairly, shows, point_after, shown_to, lent_left}
use Rattle.within.specs.Kept.{lent_shown}
use Rattle.within.specs.Lists.{hold_of}
use Rattle.word.proofs.Singles.{Single}
use Rattle.word.proofs.Weighed.{site_in, point_in, below_max, above_all, after, up_to, rest_rises}
use Rattle.word.proofs.ShownSteps.{each_get, each-drop, off_least}
use Rattle.word.proofs.TameRamps.{ordinary_tame}
use Rattle.word.proofs.FewStops.{is_lent, left_some}
use Rattle.word.proofs.LentSites.{FoundLent, found_drop, found_alone, FirstLent, first_lent}
use Rattle.word.proofs.StraightRamp.{first_is_min, last_is_max, near_inner}

past_end : (ss : List Site) (i : ℕ) (d : Site) → length ss ≤ i → get_or ss i d ≡ d
past_end [] i d l = refl
past_end (s ∷ ss) zero d l = absurd (omega arith)
past_end (s ∷ ss) (suc i) d l = past_end ss i d (omega arith)

pub shows_all : (g : Gradient) (near : ℕ → Rgba → Rgba → Bool) (a b : Float) (ss : List Site) (r : ℕ) → ((j : ℕ) → j < r → j < length ss → fairly g near a b (site_in ss j) ≡ true) → shows g near a b (take r ss) ≡ true
unfolding shows
shows_all g near a b ss zero h = refl
shows_all g near a b [] (suc r) h = refl
shows_all g near a b (s ∷ ss) (suc r) h = rw (h 0 (omega arith) (omega arith)) (shows_all g near a b ss r (λ j k l. h (suc j) (omega arith) (omega arith)))

not_minus_zero : (a x : Float) → T (le f0 a) → T (lt a x) → x ≡ of_bits binary32 2147483648 → ⊥
not_minus_zero a x h k e = none (le_lt_trans f0 a (of_bits binary32 2147483648) h (subst (λ (y : Float). T (lt a y)) e k))
  where
    none : T (lt f0 (of_bits binary32 2147483648)) → ⊥
    none t = unfold lt of_bits in t

module _ (ramp : Ramp) (o : Ordinary ramp) (asked hold : Float) where
  abbrev ps : List Float
  ps = ramp.positions

  abbrev lo : Float
  lo = min_of ramp

  abbrev hi : Float
  hi = max_of ramp

  abbrev g : Gradient
  g = colour_of ramp

  abbrev near : ℕ → Rgba → Rgba → Bool
  near = near_within (threshold_of asked) (hold_of asked hold)

  ok : Valid ramp
  ok = valid ramp (rw o.linear) o.passes

  -- ---- what holds of a point kept and of the points that are left
  pub record OwnAt (t : Float) : Type 0 where
    pub k : ℕ
    pub there : k < length ps
    pub is : t ≡ pos_at ps k

  pub record State (a : Float) (rest : List Site) : Type 0 where
    pub rising : Rises hi a rest
    pub ahead : (k : ℕ) → k < length ps → T (lt a (pos_at ps k)) → T (lt (pos_at ps k) hi) → FoundLent (pos_at ps k) rest
    pub own : Each (λ s. is_lent s ≡ true → OwnAt s.t) rest
    pub singles : Each (λ s. Single s.t) rest
    pub single : Single a
    pub short : length rest < 32768
    pub low : T (le lo a)

  pub record Free (a : Float) (rest : List Site) : Type 0 where
    pub state : State a rest
    pub apart : (k : ℕ) → k < length ps → T (eq a (pos_at ps k)) → ⊥

  -- ---- from one to the next
  module _ (a : Float) (rest : List Site) (w : State a rest) (r : ℕ) (l : r < length rest) where
    abbrev b : Float
    b = point_in hi rest r

    b_up : T (lt a b)
    b_up = after hi a rest r w.rising

    b_high : T (lt b hi)
    b_high = below_max hi b (drop (suc r) rest) (rest_rises hi a rest r w.rising l)

    on_state : State b (drop (suc r) rest)
    on_state =
        record {
          rising = rest_rises hi a rest r w.rising l;
          ahead = λ k m h u. found_drop hi (pos_at ps k) a rest r w.rising l h (w.ahead k m (lt-le_trans a b (pos_at ps k) b_up (lt→le b (pos_at ps k) h)) u);
          own = each-drop (λ s. is_lent s ≡ true → OwnAt s.t) (suc r) rest w.own;
          singles = each-drop (λ s. Single s.t) (suc r) rest w.singles;
          single = each_get (λ s. Single s.t) rest r (site hi lent_mark) w.singles l;
          short = omega (arith, length-drop (suc r) rest, w.short);
          low = le_trans lo a b w.low (lt→le a b b_up);
        }

    on_free : is_lent (get_or rest r (site hi lent_mark)) ≡ false → Free b (drop (suc r) rest)
    on_free e =
        record {
          state = on_state;
          apart =
              λ k m q.
              let found = w.ahead k m (lt-le_trans a b (pos_at ps k) b_up (le_from_eq b (pos_at ps k) q)) (le_lt_trans (pos_at ps k) b hi (ge_from_eq b (pos_at ps k) q) b_high) in
              true≢false (sym (found_alone hi (pos_at ps k) a rest r w.rising l q found) ∙ e);
        }

  back : (r : ℕ) → suc r - 1 ≡ r
  back r = omega arith

  pub on : (a : Float) (rest : List Site) → State a rest → (r : ℕ) → r < length rest → State (point_after hi rest (suc r)) (drop (suc r) rest)
  on a rest w r l = subst (λ (i : ℕ). State (get_or rest i (site hi lent_mark)).t (drop (suc r) rest)) (sym (back r)) (on_state a rest w r l)

  pub free : (a : Float) (rest : List Site) → State a rest → (r : ℕ) → r < length rest → is_lent (get_or rest r (site hi lent_mark)) ≡ false → Free (point_after hi rest (suc r)) (drop (suc r) rest)
  free a rest w r l e = subst (λ (i : ℕ). Free (get_or rest i (site hi lent_mark)).t (drop (suc r) rest)) (sym (back r)) (on_free a rest w r l e)

  -- ---- a point that is no lent position: it lies between two of them, and the first lent one that is left is the second of these
  module _ (a : Float) (rest : List Site) (w : Free a rest) where
    v : State a rest
    v = w.state

    two : 2 ≤ length ps
    two = ok.sized.least

    a_high : T (lt a hi)
    a_high = below_max hi a rest v.rising

    a_number : is_nan a ≡ false
    a_number = no_nan_l a hi (lt→le a hi a_high)

    not_first : le a (pos_at ps 0) ≡ false
    not_first = go (le a (pos_at ps 0)) refl
      where
        go : (b : Bool) → le a (pos_at ps 0) ≡ b → b ≡ false
        go true e = let t = two in absurd (w.apart 0 (omega (arith, t)) (le_antisym a (pos_at ps 0) (as_T _ e) (subst (λ (x : Float). T (le x a)) (first_is_min ramp o) v.low)))
        go false e = refl

    pub in_past : Past ps (first_at a ps) a
    in_past =
        let t = two in
        let some = first_pos a ps (omega (arith, t)) not_first in
        let few = first_le a ps (length ps - 1) (omega (arith, t)) (is_true _ (subst (λ (x : Float). T (le a x)) (last_is_max ramp o) (lt→le a hi a_high))) in
        let there : first_at a ps < length ps = omega (arith, few, t) in
        record { some = some; there = there; reached = first_reaches a ps there; past = before_first a ps (first_at a ps - 1) (omega (arith, some)) }

    abbrev pub q : Float
    q = pos_at ps (first_at a ps)

    pub a_q : T (lt a q)
    a_q = go (lt a q) refl
      where
        go : (b : Bool) → lt a q ≡ b → T (lt a q)
        go true e = as_T _ e
        go false e = absurd (w.apart (first_at a ps) in_past.there (le_antisym a q (as_T _ in_past.reached) (le_from_not_lt a q a_number (no_nan_r a q (as_T _ in_past.reached)) e)))

    pub f : FirstLent hi rest
    f = first_lent hi rest

    abbrev pub c : Float
    c = point_in hi rest f.i

    max_own : OwnAt hi
    max_own = let t = two in record { k = length ps - 1; there = omega (arith, t); is = last_is_max ramp o }

    c_own : OwnAt c
    c_own = go (dec_le (length rest) f.i)
      where
        go : Dec (length rest ≤ f.i) → OwnAt c
        go (yes l) = subst OwnAt (sym (ap (λ (s : Site). s.t) (past_end rest f.i (site hi lent_mark) l))) max_own
        go (no n) = let l = lt_of_not-le n in each_get (λ s. is_lent s ≡ true → OwnAt s.t) rest f.i (site hi lent_mark) v.own l (f.lent l)

    c_high : T (le c hi)
    c_high = go (dec_le (length rest) f.i)
      where
        go : Dec (length rest ≤ f.i) → T (le c hi)
        go (yes l) = subst (λ (x : Float). T (le x hi)) (sym (ap (λ (s : Site). s.t) (past_end rest f.i (site hi lent_mark) l))) (le_refl hi (no_nan_r a hi (lt→le a hi a_high)))
        go (no n) = lt→le c hi (b_high a rest v f.i (lt_of_not-le n))

    a_c : T (lt a c)
    a_c = after hi a rest f.i v.rising

    pub q_c : T (le q c)
    q_c =
        let j = c_own.k in
        let l = first_le a ps j c_own.there (is_true _ (subst (λ (x : Float). T (le a x)) c_own.is (lt→le a c a_c))) in
        subst (λ (x : Float). T (le q x)) (sym c_own.is) (ok.rising (first_at a ps) j l c_own.there)

    c_q : T (le c q)
    c_q = go (lt q hi) refl
      where
        go : (b : Bool) → lt q hi ≡ b → T (le c q)
        go true e = f.least a q v.rising (v.ahead (first_at a ps) in_past.there a_q (as_T _ e))
        go false e = le_trans c hi q c_high (le_from_not_lt q hi (no_nan_r a q (lt→le a q a_q)) (no_nan_r a hi (lt→le a hi a_high)) e)

    zero_a : T (le f0 a)
    zero_a = le_trans f0 lo a (ge_from_eq _ _ o.from_zero) v.low

    same : c ≡ q
    same =
        same_value c q (subst Single (sym c_own.is) (o.places c_own.k c_own.there)) (o.places (first_at a ps) in_past.there) (not_minus_zero a c zero_a a_c) (not_minus_zero a q zero_a a_q) (le_antisym c q c_q q_c)

    -- two points of the stretch show what lies between them
    pub fair_between : (t e : Float) (m : ℕ) → Single t → Single e → T (lt a t) → T (le t e) → T (le e q) → T (lt e hi) → fairly g near a e (site t m) ≡ true
    unfolding fairly near_within
    fair_between t e m st se up to end under =
        is_true _
        (le_trans _ least_threshold (off_at (threshold_of asked) (hold_of asked hold) m)
        (near_inner ramp o (first_at a ps) a t e in_past v.single st se up to end (le_lt_trans t e hi to under) under)
        (off_least ramp asked hold (ordinary_moderate ramp o).near (ordinary_tame ramp o) m))

    -- so where it lies inside the domain, the first lent position that is left is shown
    pub straight : T (lt q hi) → lent_shown g near hi a rest 1 ≡ true
    unfolding lent_shown shown_to
    straight inner =
        rw (le-leb 1 (lent_left rest) (left_some rest), f.is)
        (subst (λ (i : ℕ). shows g near a (get_or rest i (site hi lent_mark)).t (take (suc f.i) rest) ≡ true) (sym (back f.i)) (shows_all g near a c rest (suc f.i) fair_at))
      where
        fair_at : (j : ℕ) → j < suc f.i → j < length rest → fairly g near a c (site_in rest j) ≡ true
        fair_at j i l =
            let s = site_in rest j in
            subst (λ (x : Float). fairly g near a x s ≡ true) (sym same)
            (fair_between s.t q s.mark (each_get (λ s. Single s.t) rest j (site nan lent_mark) v.singles l) (o.places (first_at a ps) in_past.there) (above_all hi a rest j v.rising l)
            (subst (λ (x : Float). T (le s.t x)) same (up_to hi a rest j f.i v.rising l (omega arith))) (le_refl q (no_nan_r a q (lt→le a q a_q))) inner)
