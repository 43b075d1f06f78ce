-- A list within a hold, made of the points of a fresh sampling and not refused, stands: the judge says yes to it. Assumes nothing.
use mathlib.Core.Path.{◌≡◌, sym, subst}
use mathlib.Core.Bool.{Bool, true, false, cond}
use mathlib.Core.List.{List, [], ◌∷◌}
use mathlib.Core.Logic.{inl, inr}
use Prim.Native.Nat.{ℕ, suc, ◌+◌, ◌<◌}
use native.Mathlib.Omega.{arith}
use lib.Dec.{T, eqb}
use lib.ListN.{length}
use lib.Ieee.{Float, of_bits, le, lt, eq}
use Rattle.float.specs.F32.{f0, f1}
use Rattle.float.proofs.Order.{as_T, lt→le, le_refl, le_trans, le_antisym, lt_irrefl, no_nan_l, no_nan_r}
use Rattle.blend.specs.declared.Rgba.{Rgba}
use Rattle.blend.proofs.Channels.{length_colours}
use Rattle.stops.specs.Lent.{Ramp}
use Rattle.stops.specs.Stops.{finite_rgba}
use Rattle.stops.specs.declared.Checked.TheVariants.{Fine}
use Rattle.gradient.specs.Ramp.{is_gimp, check_of, min_of, max_of, colour_of}
use Rattle.sampling.specs.Constants.{threshold_of}
use Rattle.sampling.specs.Cells.{rows_of, counts_of}
use Rattle.sampling.specs.Sampling.{far_of, fresh}
use Rattle.sampling.proofs.Checks.{ramp_fine}
use Rattle.places.specs.Places.{list_of}
use Rattle.linearize.specs.Desk.{points_in}
use Rattle.judge.specs.Lists.{Offer}
use Rattle.judge.specs.Verdicts.{ramp_check, point_count, fresh_point}
use Rattle.judge.specs.Conditions.{Stands}
use Rattle.refresh.specs.reach.KeptCells.{is_domain}
use Rattle.refresh.proofs.reach.Domains.{checked_domain}
use Rattle.ordinary.specs.Ordinary.{Singles}
use Rattle.ordinary.proofs.Rising.{ends}
use Rattle.ordinary.proofs.Unrefused.{colour_written}
use Rattle.weighed.specs.Points.{Site, sampled_mark, own_of, sites_of}
use Rattle.within.specs.Shown.{off_at}
use Rattle.within.specs.Kept.{positions_of}
use Rattle.within.specs.Lists.{hold_of, kept_of, list_within, refusal_within}
use Rattle.word.specs.Word.{NearBy}
use Rattle.word.proofs.Weighed.{site_in, above_all, lt_trans}
use Rattle.weighed.proofs.Merging.{Each, FoundAt, rises, sampled_found}
use Rattle.within.proofs.Limits.{hold_most}
use Rattle.word.proofs.NearPoints.{near_min, near_max, near_point}
use Rattle.word.proofs.Singles.{Single, each_merged, own_single}
use Rattle.word.proofs.FreshPoints.{Plus, all_single, point_led, point_low, point_high, point_single, point_plus}
use Rattle.word.proofs.Values.{Inner, min-zero, max_one, min_single, max_single, everywhere}
use Rattle.word.proofs.Emitted.{stop_finite, colour_finite, least, most, first-is, last_is, never_fall}

-- ---- a point that was found, by its number
record Numbered (P : Site → Type 0) (t : Float) (l : List Site) : Type 0 where
  i : ℕ
  inside : i < length l
  same : T (eq (site_in l i).t t)
  is : P (site_in l i)

numbered : (P : Site → Type 0) (t : Float) (l : List Site) → Each P l → FoundAt t l → Numbered P t l
numbered P t [] v w = absurd w
numbered P t (x ∷ l) v (inl w) = record { i = 0; inside = omega arith; same = w; is = v.0 }
numbered P t (x ∷ l) v (inr w) =
    let r = numbered P t l v.1 w in
    let k = r.inside in
    record { i = suc r.i; inside = omega arith; same = r.same; is = r.is }

module _ (ramp : Ramp) (asked hold : Float) (room : ℕ) (fine : ramp_check ramp ≡ Fine) (singles : Singles ramp.positions) where
  abbrev lo : Float
  lo = min_of ramp

  abbrev hi : Float
  hi = max_of ramp

  abbrev ts : List Float
  ts = list_of (rows_of (colour_of ramp) (far_of asked) lo hi) (counts_of (colour_of ramp) (far_of asked) lo hi) hi

  abbrev off : Float
  off = threshold_of asked

  abbrev offer : Offer
  offer = list_within ramp asked hold ts

  passes : check_of ramp ≡ Fine
  passes = ramp_fine ramp _ _ _ fine

  domain : is_domain lo hi ≡ true
  domain = checked_domain ramp _ _ _ fine

  fl : Single lo
  fl = min_single ramp passes singles

  fh : Single hi
  fh = max_single ramp passes singles

  ordered : T (le lo hi)
  ordered = (ends lo hi domain).1

  sites_single : Each (λ s. Single s.t) (sites_of ramp ts)
  unfolding sites_of
  sites_single =
      each_merged (λ s. Single s.t) hi _ lo ts (own_of ramp.positions) (all_single (colour_of ramp) (far_of asked) lo hi domain fl fh)
      (own_single ramp.positions singles)

  module _ (done : refusal_within ramp asked hold room ts ≡ 0) where
    -- ---- at the ends
    at_min : NearBy ramp offer off lo
    at_min = le_trans _ (hold_of asked hold) off (near_min ramp asked hold ts room done (le_refl lo (no_nan_l lo hi ordered))) (hold_most asked hold)

    at_max : T (lt lo hi) → NearBy ramp offer off hi
    at_max wide = le_trans _ (hold_of asked hold) off (near_max ramp asked hold ts room done wide) (hold_most asked hold)

    -- ---- at a point of the record
    off_most : (m : ℕ) → T (le (off_at off (hold_of asked hold) m) off)
    off_most m = go (eqb m sampled_mark)
      where
        go : (b : Bool) → T (le (cond b off (hold_of asked hold)) off)
        go true = le_refl off (no_nan_r (hold_of asked hold) off (hold_most asked hold))
        go false = hold_most asked hold

    module _ (i j : ℕ) (l : i < 36) (m : j < point_count ramp asked i) where
      abbrev t : Float
      t = fresh_point ramp asked i j

      inner : T (lt lo t) → T (lt t hi) → Inner ramp offer off t
      unfolding sites_of
      inner lower upper =
          let wide = lt_trans lo t hi lower upper in
          let n = length ts + length (own_of ramp.positions) in
          let found = sampled_found hi t (no_nan_r lo t (lt→le lo t lower)) upper n lo ts (own_of ramp.positions) (omega arith) lower (point_led (colour_of ramp) (far_of asked) lo hi domain fl fh i j l m) in
          let r = numbered (λ s. Single s.t) t (sites_of ramp ts) sites_single found in
          record {
            x = (site_in (sites_of ramp ts) r.i).t;
            single = r.is;
            same = r.same;
            above = above_all hi lo (sites_of ramp ts) r.i (rises hi n lo ts (own_of ramp.positions) wide) r.inside;
            near = le_trans _ (off_at off (hold_of asked hold) (site_in (sites_of ramp ts) r.i).mark) off (near_point ramp asked hold ts room done wide r.i r.inside) (off_most (site_in (sites_of ramp ts) r.i).mark);
          }

      plus : is_gimp ramp.kind ≡ true → T (eq t f0) → Plus t
      plus e h = rw (min-zero ramp e, max_one ramp e) (point_plus (colour_of ramp) (far_of asked) i j (rw (min-zero ramp e, max_one ramp e) at m))

      near_fresh : NearBy ramp offer off t
      near_fresh =
          everywhere ramp offer off passes singles t (point_single (colour_of ramp) (far_of asked) lo hi domain fl fh i j l m)
          (point_low (colour_of ramp) (far_of asked) lo hi domain fl fh i j l m) (point_high (colour_of ramp) (far_of asked) lo hi domain fl fh i j l m)
          plus inner at_min at_max

    near_end : NearBy ramp offer off hi
    near_end =
        everywhere ramp offer off passes singles hi fh ordered (le_refl hi (no_nan_r lo hi ordered)) (λ e h. rw (max_one ramp e) one_plus)
        (λ a b. absurd (subst T (lt_irrefl hi) b)) at_min at_max
      where
        one_plus : Plus f1
        one_plus = unfold of_bits in tt

    -- ---- the list
    stands_points : Stands ramp asked offer
    unfolding list_within
    stands_points =
        let ps = positions_of (kept_of ramp asked hold ts) in
        record {
          fine = fine;
          least = least ramp asked hold room ts done;
          most = most ramp asked hold room ts done;
          four = length_colours (colour_of ramp) ps;
          finite_at = λ i l. as_T _ (stop_finite ramp asked hold room ts done i l);
          colour_finite = λ i l. subst (λ (c : Rgba). T (finite_rgba c)) (sym (colour_written (colour_of ramp) ps i l)) (as_T _ (colour_finite ramp asked hold room ts done i l));
          rising = never_fall ramp asked hold room ts done ordered;
          first = rw (first-is ramp asked hold room ts done) (le_antisym lo lo (le_refl lo (no_nan_l lo hi ordered)) (le_refl lo (no_nan_l lo hi ordered)));
          last = rw (last_is ramp asked hold room ts done) (le_antisym hi hi (le_refl hi (no_nan_r lo hi ordered)) (le_refl hi (no_nan_r lo hi ordered)));
          near_rows = near_fresh;
          near_max = near_end;
        }

  -- the list stands
  pub stands : refusal_within ramp asked hold room (points_in ramp (fresh ramp asked)) ≡ 0 → Stands ramp asked (list_within ramp asked hold (points_in ramp (fresh ramp asked)))
  unfolding fresh
  stands done = stands_points done
