-- The theorems of the call: yes is answered exactly where the list stands; and lists with the same stops get one answer, whoever made them. Assumes nothing.
use mathlib.Core.Path.{◌≡◌, refl, sym, ap, ◌∙◌}
use mathlib.Core.Bool.{true}
use mathlib.Core.List.{List}
use mathlib.Core.Logic.{⊎_elim}
use Prim.Native.Nat.{ℕ, ◌+◌, ◌-◌, ◌<◌}
use native.Mathlib.Omega.{arith}
use lib.ListN.{length, get_or}
use lib.Ieee.{Float, nan}
use lib.Ieee.Bits.{is_true}
use Rattle.float.proofs.Order.{as_T, not_lt_from_le}
use Rattle.stops.specs.Answers.{on_fine}
use Rattle.stops.specs.Lent.{Ramp}
use Rattle.stops.specs.Stops.{pos_at}
use Rattle.stops.specs.declared.Checked.{Checked}
use Rattle.stops.specs.declared.Checked.TheVariants as checked
use Rattle.gradient.specs.Ramp.{min_of, max_of, colour_of}
use Rattle.difference.specs.Difference.{differs}
use Rattle.sampling.specs.Cells.{edge_of, points_of}
use Rattle.sampling.specs.Constants.{threshold_of}
use Rattle.judge.specs.Lists.{Offer, good_stop, offered_ramp}
use Rattle.judge.specs.Verdicts.{ramp_check, close, all_verdict, point_count, fresh_point, close_at, shape_verdict, points_verdict, list_verdict, verdict_of}
use Rattle.judge.specs.Conditions.{Near, Stands, SameStops}
use Rattle.judge.specs.Promises.{Judges}
use Rattle.judge.specs.declared.Verdict.{Verdict}
use Rattle.judge.specs.declared.Verdict.TheVariants.{Yes, Refused}
use Rattle.judge.proofs.Listing.{size, from_size, holds, each_good, rising, all_good}
use Rattle.judge.proofs.Walking.{all_yes, yes_all}
use Rattle.judge.proofs.Shaping.{wrong_length, Shaped, shape_yes, yes_shape}
use Rattle.judge.proofs.Stopwise.{same_or_unsized}

fine_of : (c : Checked) (x : Verdict) → on_fine c x Refused ≡ Yes → (c ≡ checked.Fine) × (x ≡ Yes)
fine_of checked.Fine x e = (refl, e)
fine_of (checked.Refused n) x e = let z : ◌≡◌ {A = ℕ} 0 1 = cc in absurd (omega arith)

module _ (ramp : Ramp) (asked : Float) (offer : Offer) where
  abbrev n : ℕ
  n = length offer.positions

  abbrev m : ℕ
  m = length offer.channels

  -- the tests that were passed
  record Passed : Type 0 where
    fine : ramp_check ramp ≡ checked.Fine
    shape : Shaped (min_of ramp) (max_of ramp) offer
    points : points_verdict ramp asked offer ≡ Yes

  passed : verdict_of ramp asked offer ≡ Yes → Passed
  unfolding verdict_of list_verdict
  passed e =
      let a = fine_of (ramp_check ramp) _ e in
      let b = shape_yes (min_of ramp) (max_of ramp) offer (points_verdict ramp asked offer) a.1 in
      record { fine = a.0; shape = b.0; points = b.1 }

  passes : Passed → verdict_of ramp asked offer ≡ Yes
  unfolding verdict_of list_verdict
  passes w = rw w.fine (yes_shape (min_of ramp) (max_of ramp) offer (points_verdict ramp asked offer) w.shape ∙ w.points)

  -- near, as a test and as a fact
  told_near : (t : Float) → close_at ramp asked offer t ≡ true → Near ramp asked offer t
  unfolding close
  told_near t e = as_T _ e

  near_told : (t : Float) → Near ramp asked offer t → close_at ramp asked offer t ≡ true
  unfolding close
  near_told t w = is_true _ w

  stands : Passed → Stands ramp asked offer
  unfolding points_verdict
  stands w =
      let s = size n m w.shape.long in
      let near = all_yes (close_at ramp asked offer) (point_count ramp asked) (fresh_point ramp asked) (max_of ramp) w.points in
      record {
        fine = w.fine;
        least = s.least;
        most = s.most;
        four = s.four;
        finite_at = λ i l. as_T _ (each_good offer w.shape.stops i l).position;
        colour_finite = λ i l. as_T _ (each_good offer w.shape.stops i l).colour;
        rising = rising offer w.shape.stops;
        first = as_T _ w.shape.first;
        last = as_T _ w.shape.last;
        near_rows = λ i j h l. told_near (fresh_point ramp asked i j) (near.rows i j h l);
        near_max = told_near (max_of ramp) near.end;
      }

  good_at : Stands ramp asked offer → (i : ℕ) → i < n → good_stop offer.positions offer.channels i ≡ true
  good_at w i l =
      sym (holds offer.positions offer.channels i (is_true _ (w.finite_at i l)) (is_true _ (w.colour_finite i l))
      (not_lt_from_le (pos_at offer.positions i) (pos_at offer.positions (i - 1)) (w.rising (i - 1) i (omega arith) l)))

  stood : Stands ramp asked offer → Passed
  unfolding points_verdict
  stood w =
      record {
        fine = w.fine;
        shape =
            record {
              long = from_size n m (record { least = w.least; most = w.most; four = w.four });
              stops = omega (arith, all_good offer (good_at w));
              first = is_true _ w.first;
              last = is_true _ w.last;
            };
        points =
            yes_all (close_at ramp asked offer) (point_count ramp asked) (fresh_point ramp asked) (max_of ramp)
            (record { rows = λ i j h l. near_told (fresh_point ramp asked i j) (w.near_rows i j h l); end = near_told (max_of ramp) w.near_max });
      }

  -- ---- yes exactly where every one of the conditions holds
  module _ (r : Verdict) (w : Judges ramp asked offer r) where
    pub yes_stands : r ≡ Yes → Stands ramp asked offer
    yes_stands e = stands (passed (sym w.answer ∙ e))

    pub stands_yes : Stands ramp asked offer → r ≡ Yes
    stands_yes s = w.answer ∙ passes (stood s)

-- ---- one answer
module _ (ramp : Ramp) (asked mine : Float) (offer : Offer) (e : threshold_of asked ≡ threshold_of mine) where
  same_points : points_verdict ramp asked offer ≡ points_verdict ramp mine offer
  unfolding points_verdict
  same_points = ap by_threshold e
    where
      points : Float → ℕ → List Float
      points x i = points_of (colour_of ramp) (differs x) (edge_of (min_of ramp) (max_of ramp) i) (edge_of (min_of ramp) (max_of ramp) (i + 1))

      by_threshold : Float → Verdict
      by_threshold x = all_verdict (close (colour_of ramp) (colour_of (offered_ramp offer)) x) (λ i. length (points x i)) (λ i j. get_or (points x i) j nan) (max_of ramp)

  same_threshold : verdict_of ramp asked offer ≡ verdict_of ramp mine offer
  unfolding verdict_of list_verdict
  same_threshold = ap (λ (v : Verdict). on_fine (ramp_check ramp) (shape_verdict (min_of ramp) (max_of ramp) offer v) Refused) same_points

same_verdict : (ramp : Ramp) (asked : Float) (one other : Offer) → SameStops one other → verdict_of ramp asked one ≡ verdict_of ramp asked other
unfolding verdict_of list_verdict
same_verdict ramp asked one other w =
    ⊎_elim
    (λ e. ap (verdict_of ramp asked) e)
    (λ n. ap (λ (v : Verdict). on_fine (ramp_check ramp) v Refused)
    (sym (wrong_length (min_of ramp) (max_of ramp) one (points_verdict ramp asked one) n.0)
    ∙ wrong_length (min_of ramp) (max_of ramp) other (points_verdict ramp asked other) n.1))
    (same_or_unsized one other w)

-- the answer is a function of the ramp, the threshold in force and the stops
pub one_answer : (ramp : Ramp) (asked mine : Float) (one other : Offer) (r s : Verdict) → threshold_of asked ≡ threshold_of mine → SameStops one other
    → Judges ramp asked one r → Judges ramp mine other s → r ≡ s
one_answer ramp asked mine one other r s e w p q =
    p.answer ∙ same_verdict ramp asked one other w ∙ same_threshold ramp asked mine other e ∙ sym q.answer
