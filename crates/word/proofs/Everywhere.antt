-- Everywhere, for linear ramps with channels from 0 to 1: a list that keeps its word, and whose stops climb from min to max on the ramp, is nearly held at every f32 of the domain. Assumes nothing.
use mathlib.Core.Path.{◌≡◌, refl, sym, ◌∙◌, subst}
use mathlib.Core.Bool.{Bool, true, false, true≢false}
use mathlib.Core.List.{List}
use Prim.Native.Nat.{ℕ, suc, ◌+◌, ◌-◌, ◌*◌, ◌^◌, ◌≤◌, ◌<◌}
use native.Mathlib.Omega.{arith}
use lib.Dec.{T}
use lib.ListN.{length, get_or}
use lib.Ieee.{Float, nan, neg, le, lt, is_nan}
use lib.Ieee.Bits.{is_true}
use lib.Ieee.Scale.{finite}
use Rattle.float.specs.Number.{above_of, below_of}
use Rattle.float.specs.Units.{count}
use Rattle.float.proofs.Order.{as_T, le_trans, lt→le, le_from_not_lt, le_antisym, no_nan_l, no_nan_r, finite_between}
use Rattle.float.proofs.SignedRound.{neg-le}
use Rattle.float.proofs.Adjacent.{One, one_neg}
use Rattle.float.proofs.Beside.{neg-neg, above_next, below_next, above_above, below_below}
use Rattle.blend.specs.Channels.{colours_of}
use Rattle.blend.proofs.Clear.{Clear}
use Rattle.difference.specs.Measure.{Plain}
use Rattle.difference.proofs.Measuring.{ClearColour}
use Rattle.stops.specs.Lent.{Ramp}
use Rattle.stops.specs.Stops.{pos_at, colour_at}
use Rattle.stops.specs.declared.Checked.TheVariants.{Fine}
use Rattle.stops.proofs.Valid.{Valid}
use Rattle.gradient.specs.Ramp.{is_gimp, check_of, min_in, max_in, min_of, max_of, colour_of}
use Rattle.gradient.proofs.Valid.{valid}
use Rattle.judge.specs.Lists.{Offer, offer_of, offered_ramp}
use Rattle.refresh.specs.reach.KeptCells.{is_domain}
use Rattle.ordinary.proofs.Rising.{span-finite}
use Rattle.ordinary.proofs.Everywhere.{unit_everywhere}
use Rattle.ordinary.proofs.Unrefused.{colour_written}
use Rattle.word.specs.Word.{NearBy, InDomain, HeldAt, KeepsWord}
use Rattle.word.specs.Everywhere.{UnitRamp, miss_of, NearlyHeld, HeldEverywhere}
use Rattle.word.proofs.Singles.{Single, every_of, above_single, below_single}
use Rattle.word.proofs.SingleColours.{colour_single}
use Rattle.word.proofs.Values.{moves}
use Rattle.word.proofs.ClearDistance.{plain_distance, no_more}
use Rattle.word.proofs.Ladders.{Ladder, LiesIn, found, clear_at}
use Rattle.word.proofs.Inside.{nearly}

-- below is not above
below_under : (q : Float) → One q → T (le (below_of q) q)
unfolding below_of
below_under q w = subst (λ (x : Float). T (le (neg (above_of (neg q))) x)) (neg-neg q) (neg-le (neg q) (above_of (neg q)) (lt→le (neg q) (above_of (neg q)) (above_above (neg q) (one_neg q w))))

-- ---- the ramp
module _ (ramp : Ramp) (unit : UnitRamp ramp) (passes : check_of ramp ≡ Fine) (domain : is_domain (min_of ramp) (max_of ramp) ≡ true) where
  abbrev ps : List Float
  ps = ramp.positions

  of_stops : is_gimp ramp.kind ≡ false
  of_stops = rw unit.linear

  ok : Valid ramp
  ok = valid ramp of_stops passes

  pub least : 2 ≤ length ps
  least = ok.sized.least

  pub min_is : min_of ramp ≡ pos_at ps 0
  unfolding min_in
  min_is = rw of_stops

  pub max_is : max_of ramp ≡ pos_at ps (length ps - 1)
  unfolding max_in
  max_is = rw of_stops

  pub own : Ladder ps
  unfolding min_in max_in
  own = record { rising = ok.rising; singles = unit.places; whole = λ i l. as_T _ (ok.finite_at i l); span = rw of_stops at (span-finite (min_of ramp) (max_of ramp) domain) }

  pub clear : (t : Float) → ClearColour (colour_of ramp t)
  clear t =
      let s = colour_single ramp (every_of ramp.channels unit.channels) t in
      let u = unit_everywhere ramp ok unit.places own.span unit.linear unit.within unit.channels t in
      record {
        red = record { single = s.red; low = u.red.0; high = u.red.1 };
        green = record { single = s.green; low = u.green.0; high = u.green.1 };
        blue = record { single = s.blue; low = u.blue.0; high = u.blue.1 };
        alpha = record { single = s.alpha; low = u.alpha.0; high = u.alpha.1 };
      }

  stop_clear : (i : ℕ) → i < length ps → ClearColour (colour_at ramp.channels i)
  stop_clear i l =
      let n : length ramp.channels ≡ 4 * length ps = ok.sized.four in
      record { red = one (4 * i) (omega arith); green = one (4 * i + 1) (omega arith); blue = one (4 * i + 2) (omega arith); alpha = one (4 * i + 3) (omega arith) }
    where
      one : (k : ℕ) → k < length ramp.channels → Clear (get_or ramp.channels k nan)
      one k h = let w = unit.within k h in record { single = unit.channels k h; low = w.0; high = w.1 }

  -- ---- the list
  module _ (ls : List Float) (listed : Ladder ls) (two : 2 ≤ length ls) (starts : pos_at ls 0 ≡ min_of ramp) (ends : pos_at ls (length ls - 1) ≡ max_of ramp) (hold : Float) (plain_hold : Plain hold) (small : 28 * count hold ≤ 2 ^ 149)
      (word : KeepsWord ramp (offer_of ls (colours_of (colour_of ramp) ls)) hold) where
    abbrev offer : Offer
    offer = offer_of ls (colours_of (colour_of ramp) ls)

    list_clear : (t : Float) → is_nan t ≡ false → ClearColour (colour_of (offered_ramp offer) t)
    list_clear = clear_at (offered_ramp offer) refl listed two (λ i l. subst ClearColour (sym (colour_written (colour_of ramp) ls i l)) (clear (pos_at ls i)))

    near_held : (t : Float) → is_nan t ≡ false → NearBy ramp offer hold t → NearlyHeld ramp offer hold t
    near_held t n h =
        record {
          plain = plain_distance _ _ (clear t) (list_clear t n);
          most = more (count (miss_of ramp offer t)) (count hold) (2 ^ 130) (no_more _ _ (clear t) (list_clear t n) hold plain_hold h);
        }
      where
        more : (a b c : ℕ) → a ≤ b → a ≤ b + c
        more a b c h = omega arith

    -- where the list is held at x, it is at t of its value
    asked : (x : Float) → HeldAt ramp offer hold x → InDomain ramp x → NearBy ramp offer hold x
    asked x h d = rw of_stops at (h d)

    at_value : (x t : Float) → Single x → Single t → T (le x t) → T (le t x) → InDomain ramp x → HeldAt ramp offer hold x → NearlyHeld ramp offer hold t
    at_value x t sx st a b d h =
        near_held t (no_nan_r x t a) (moves ramp offer hold x t sx st (le_antisym x t a b) (λ k. absurd (true≢false (sym k ∙ of_stops))) (asked x h d))

    own_inside : (i : ℕ) → i < length ps → InDomain ramp (pos_at ps i)
    own_inside i l =
        record {
          lower = subst (λ (x : Float). T (le x (pos_at ps i))) (sym min_is) (own.rising 0 i (omega arith) l);
          upper = subst (λ (x : Float). T (le (pos_at ps i) x)) (sym max_is) (own.rising i (length ps - 1) (omega arith) (omega arith));
        }

    module _ (t : Float) (st : Single t) (d : InDomain ramp t) where
      number : is_nan t ≡ false
      number = no_nan_r (min_of ramp) t d.lower

      at_own : (i : ℕ) → i < length ps → T (le (pos_at ps i) t) → T (le t (pos_at ps i)) → NearlyHeld ramp offer hold t
      at_own i l a b = at_value (pos_at ps i) t (own.singles i l) st a b (own_inside i l) (word.at_lent i l)

      -- ---- strictly between two neighbours
      module _ (low : T (lt (pos_at ps 0) t)) (high : T (lt t (pos_at ps (length ps - 1)))) (w : LiesIn ps t) (tq : T (lt t (pos_at ps (suc w.j)))) where
        abbrev p : Float
        p = pos_at ps w.j

        abbrev q : Float
        q = pos_at ps (suc w.j)

        abbrev u : Float
        u = above_of p

        abbrev v : Float
        v = below_of q

        there : w.j < length ps
        there = let l = w.inside in omega arith

        ft : T (finite t)
        ft = finite_between p t q (own.whole w.j there) (own.whole (suc w.j) w.inside) (lt→le p t w.from) w.to

        one_p : One p
        one_p = (own.singles w.j there, is_true _ (own.whole w.j there))

        one_q : One q
        one_q = (own.singles (suc w.j) w.inside, is_true _ (own.whole (suc w.j) w.inside))

        one_t : One t
        one_t = (st, is_true _ ft)

        pu : T (lt p u)
        pu = above_above p one_p

        ut : T (le u t)
        ut = above_next p t one_p one_t w.from

        tv : T (le t v)
        tv = below_next t q one_t one_q tq

        one_v : One v
        one_v = (below_single q, is_true _ (finite_between t v q ft (own.whole (suc w.j) w.inside) tv (below_under q one_q)))

        vq : T (lt v q)
        vq = below_below q one_q one_v

        u_inside : InDomain ramp u
        u_inside = record { lower = le_trans (min_of ramp) p u (own_inside w.j there).lower (lt→le p u pu); upper = le_trans u t (max_of ramp) ut d.upper }

        v_inside : InDomain ramp v
        v_inside = record { lower = le_trans (min_of ramp) t v d.lower tv; upper = le_trans v q (max_of ramp) (lt→le v q vq) (own_inside (suc w.j) w.inside).upper }

        within : NearlyHeld ramp offer hold t
        within = go (lt u t) refl
          where
            go : (b : Bool) → lt u t ≡ b → NearlyHeld ramp offer hold t
            go false e = at_value u t (above_single p) st ut (le_from_not_lt u t (no_nan_l u t ut) number e) u_inside (word.just_above w.j there)
            go true e =
                let l = found ls listed two t (subst (λ (x : Float). T (lt x t)) (sym (starts ∙ min_is)) low) (subst (λ (x : Float). T (lt t x)) (sym (ends ∙ max_is)) high) in
                nearly ramp unit.linear own clear stop_clear ls listed (ends ∙ max_is) hold plain_hold small w.j w.inside l.j l.inside u t v (above_single p) st (below_single q) pu (as_T _ e) tv vq l.from l.to
                (asked u (word.just_above w.j there) u_inside) (asked v (word.just_below (suc w.j) w.inside) v_inside)

      -- ---- anywhere
      somewhere : NearlyHeld ramp offer hold t
      somewhere = go (lt (pos_at ps 0) t) (lt t (pos_at ps (length ps - 1))) refl refl
        where
          low : T (le (pos_at ps 0) t)
          low = subst (λ (x : Float). T (le x t)) min_is d.lower

          high : T (le t (pos_at ps (length ps - 1)))
          high = subst (λ (x : Float). T (le t x)) max_is d.upper

          inner : (w : LiesIn ps t) → T (lt (pos_at ps 0) t) → T (lt t (pos_at ps (length ps - 1))) → (c : Bool) → lt t (pos_at ps (suc w.j)) ≡ c → NearlyHeld ramp offer hold t
          inner w a b true e = within a b w (as_T _ e)
          inner w a b false e = at_own (suc w.j) w.inside (le_from_not_lt t _ number (no_nan_r t _ w.to) e) w.to

          go : (a b : Bool) → lt (pos_at ps 0) t ≡ a → lt t (pos_at ps (length ps - 1)) ≡ b → NearlyHeld ramp offer hold t
          go false b k e = at_own 0 (omega (arith, least)) low (le_from_not_lt (pos_at ps 0) t (no_nan_l _ t low) number k)
          go true false k e = at_own (length ps - 1) (omega (arith, least)) (le_from_not_lt t _ number (no_nan_r t _ high) e) high
          go true true k e = let w = found ps own least t (as_T _ k) (as_T _ e) in inner w (as_T _ k) (as_T _ e) (lt t (pos_at ps (suc w.j))) refl

    pub held_everywhere : HeldEverywhere ramp offer hold
    held_everywhere t st d = somewhere t st d
