-- An ordinary ramp between two lent positions: two points there show every f32 between them within the least threshold. Assumes nothing.
use mathlib.Core.Path.{◌≡◌, refl, sym, ◌∙◌, subst}
use mathlib.Core.Bool.{Bool, true, false, true≢false}
use mathlib.Core.List.{List}
use Prim.Native.Nat.{ℕ, ◌+◌, ◌-◌, ◌*◌, ◌^◌, ◌≤◌, ◌<◌}
use native.Mathlib.Nat.{lt_of_not-le, le_antisymm}
use native.Mathlib.Decide.{dec_le}
use native.Mathlib.Omega.{arith}
use lib.Dec.{T}
use lib.ListN.{length, get_or}
use lib.Ieee.{Float, nan, le, lt, is_nan}
use lib.Ieee.Bits.{is_true}
use Rattle.float.specs.F32.{◌⊖◌, ◌⊘◌, f0, f1}
use Rattle.float.specs.Units.{count}
use Rattle.float.proofs.Order.{as_T, le_trans, lt→le, not_lt_from_le, no_nan_l, le_from_not_lt, le_lt_trans, lt-le_trans, le_from_eq, ge_from_eq}
use Rattle.blend.specs.Blend.{linear}
use Rattle.blend.specs.Pair.{linear_pair}
use Rattle.blend.specs.declared.Rgba.{Rgba}
use Rattle.difference.specs.Difference.{distance_of}
use Rattle.blend.proofs.Clear.{Clear}
use Rattle.difference.proofs.Measuring.{ClearColour}
use Rattle.stops.specs.Lent.{Ramp}
use Rattle.stops.specs.Stops.{pos_at, colour_at}
use Rattle.stops.specs.Place.{first_at}
use Rattle.stops.specs.Pair.{pair_of, between, colour_in}
use Rattle.stops.proofs.Valid.{Valid, first_le}
use Rattle.stops.proofs.Choice.{first_reaches, place_between}
use Rattle.gradient.specs.Ramp.{is_gimp, min_in, max_in, min_of, max_of, colour_of}
use Rattle.gradient.proofs.Valid.{valid}
use Rattle.sampling.specs.Constants.{least_threshold}
use Rattle.ordinary.specs.Ordinary.{Ordinary}
use Rattle.ordinary.proofs.Colours.{Past}
use Rattle.word.proofs.Singles.{Single}
use Rattle.word.proofs.Weighed.{not-le}
use Rattle.word.proofs.Straight.{mix_at, line_at}
use Rattle.word.proofs.ThreePoints.{Line}
use Rattle.word.proofs.MixLine.{le_counts}
use Rattle.word.proofs.StraightPair.{Stands, colour_clear, pair_near}

module _ (ramp : Ramp) (o : Ordinary ramp) where
  abbrev ps : List Float
  ps = ramp.positions

  abbrev cs : List Float
  cs = ramp.channels

  of_stops : is_gimp ramp.kind ≡ false
  of_stops = rw o.linear

  ok : Valid ramp
  ok = valid ramp of_stops o.passes

  pub first_is_min : min_of ramp ≡ pos_at ps 0
  unfolding min_in
  first_is_min = rw o.linear

  pub last_is_max : max_of ramp ≡ pos_at ps (length ps - 1)
  unfolding max_in
  last_is_max = rw o.linear

  pub place_clear : (i : ℕ) → i < length ps → Clear (pos_at ps i)
  place_clear i l =
      record {
        single = o.places i l;
        low = le_trans f0 (pos_at ps 0) (pos_at ps i) (subst (λ (x : Float). T (le f0 x)) first_is_min (ge_from_eq _ _ o.from_zero)) (ok.rising 0 i (omega arith) l);
        high = le_trans (pos_at ps i) (pos_at ps (length ps - 1)) f1 (ok.rising i (length ps - 1) (omega arith) (omega arith)) (subst (λ (x : Float). T (le x f1)) last_is_max (le_from_eq _ _ o.to_one));
      }

  stop_clear : (i : ℕ) → i < length ps → ClearColour (colour_at cs i)
  stop_clear i l =
      let four = ok.sized.four in
      record {
        red = one (4 * i) (omega (arith, four));
        green = one (4 * i + 1) (omega (arith, four));
        blue = one (4 * i + 2) (omega (arith, four));
        alpha = one (4 * i + 3) (omega (arith, four));
      }
    where
      one : (j : ℕ) → j < length cs → Clear (get_or cs j nan)
      one j m = record { single = o.channels j m; low = (o.within j m).0; high = (o.within j m).1 }

  -- ---- the colour at t, between stop k - 1 and stop k
  module _ (k : ℕ) (t : Float) (at : Past ps k t) where
    abbrev p : Float
    p = pos_at ps (k - 1)

    abbrev q : Float
    q = pos_at ps k

    first_at_lem : first_at t ps ≡ k
    first_at_lem = le_antisymm (first_le t ps k at.there at.reached) (go (dec_le k (first_at t ps)))
      where
        go : Dec (k ≤ first_at t ps) → k ≤ first_at t ps
        go (yes h) = h
        go (no f) =
            let l = lt_of_not-le f in
            let th = at.there in
            absurd (true≢false (sym (is_true _ (le_trans t (pos_at ps (first_at t ps)) p (as_T _ (first_reaches t ps (omega (arith, l, th)))) (ok.rising (first_at t ps) (k - 1) (omega (arith, l)) (omega (arith, th))))) ∙ at.past))

    past_number : is_nan t ≡ false
    past_number = no_nan_l t q (as_T _ at.reached)

    -- p lies below t
    below : T (le p t)
    below = le_from_not_lt t p past_number (no_nan_l p p (ok.rising (k - 1) (k - 1) (omega arith) (let th = at.there in omega (arith, th)))) (go (lt t p) refl)
      where
        go : (b : Bool) → lt t p ≡ b → b ≡ false
        go true e = absurd (true≢false (sym (is_true _ (lt→le t p (as_T _ e))) ∙ at.past))
        go false e = refl

    not_first : le t (pos_at ps 0) ≡ false
    not_first = go (le t (pos_at ps 0)) refl
      where
        go : (b : Bool) → le t (pos_at ps 0) ≡ b → b ≡ false
        go true e = let th = at.there in absurd (true≢false (sym (is_true _ (le_trans t (pos_at ps 0) p (as_T _ e) (ok.rising 0 (k - 1) (omega arith) (omega (arith, th))))) ∙ at.past))
        go false e = refl

    pub past_clear : Single t → Clear t
    past_clear s =
        let th = at.there in
        let wp = place_clear (k - 1) (omega (arith, th)) in
        record { single = s; low = le_trans f0 p t wp.low below; high = le_trans t q f1 (as_T _ at.reached) (place_clear k th).high }

    pub colour_past : T (lt t (max_of ramp)) → colour_of ramp t ≡ linear (colour_at cs (k - 1)) (colour_at cs k) ((t ⊖ p) ⊘ (q ⊖ p))
    unfolding colour_of colour_in between pair_of linear_pair
    colour_past h =
        let last : le (pos_at ps (length ps - 1)) t ≡ false = subst (λ (x : Float). le x t ≡ false) last_is_max (not-le t (max_of ramp) h) in
        rw (o.linear, place_between ps t not_first last past_number, first_at_lem)

  -- ---- a point a between two lent positions, another e after it up to the second of these, and t between the two
  module _ (k : ℕ) (a t e : Float) (at : Past ps k a) (sa : Single a) (st : Single t) (se : Single e) (up : T (lt a t)) (to : T (le t e)) (end : T (le e (pos_at ps k))) (under : T (lt t (max_of ramp))) where
    abbrev from : Float
    from = pos_at ps (k - 1)

    abbrev next : Float
    next = pos_at ps k

    -- what lies past a lies past the first of them
    on_past : (x : Float) → T (le a x) → le x from ≡ false
    on_past x h = go (le x from) refl
      where
        go : (b : Bool) → le x from ≡ b → b ≡ false
        go true e = absurd (true≢false (sym (is_true _ (le_trans a x from h (as_T _ e))) ∙ at.past))
        go false e = refl

    at_t : Past ps k t
    at_t = record { some = at.some; there = at.there; reached = is_true _ (le_trans t e next to end); past = on_past t (lt→le a t up) }

    a_e : T (lt a e)
    a_e = lt-le_trans a t e up to

    at_e : Past ps k e
    at_e = record { some = at.some; there = at.there; reached = is_true _ end; past = on_past e (lt→le a e a_e) }

    k_1 : k - 1 < length ps
    k_1 = let th = at.there in omega (arith, th)

    wp : Clear from
    wp = place_clear (k - 1) k_1

    wq : Clear next
    wq = place_clear k at.there

    we : Clear e
    we = past_clear k e at_e se

    wb : ClearColour (colour_at cs (k - 1))
    wb = stop_clear (k - 1) k_1

    wc : ClearColour (colour_at cs k)
    wc = stop_clear k at.there

    a_under : T (lt a (max_of ramp))
    a_under = lt-le_trans a t (max_of ramp) up (lt→le t (max_of ramp) under)

    way : T (lt from next)
    way = le_lt_trans from a next (below k a at) (lt-le_trans a e next a_e end)

    counts : count from < count next
    counts = lt_of_not-le (λ h. subst T (not_lt_from_le from next (le_counts next from wq wp h)) way)

    near : (c : Rgba) → ClearColour c → ((l d : ℕ) → count from + l ≡ count e → count e + d ≡ count next → Stands (colour_at cs (k - 1)) (colour_at cs k) c l d)
        → T (le (distance_of (colour_of ramp t) (linear (colour_of ramp a) c ((t ⊖ a) ⊘ (e ⊖ a)))) least_threshold)
    near c w stands =
        rw (colour_past k t at_t under, colour_past k a at a_under)
        (pair_near from next a t e (colour_at cs (k - 1)) (colour_at cs k) c wp wq (past_clear k a at sa) (past_clear k t at_t st) we wb wc w (below k a at) (lt→le a t up) to end a_e stands)

    -- inside the domain the mix stands there
    pub near_inner : T (lt e (max_of ramp)) → T (le (distance_of (colour_of ramp t) (linear (colour_of ramp a) (colour_of ramp e) ((t ⊖ a) ⊘ (e ⊖ a)))) least_threshold)
    near_inner h =
        rw (colour_past k e at_e h)
        (near _ (colour_clear from next e wp wq we (below k e at_e) end counts _ _ wb wc)
        (λ l d i j. unfold linear in record { red = one i j wb.red wc.red; green = one i j wb.green wc.green; blue = one i j wb.blue wc.blue; alpha = one i j wb.alpha wc.alpha }))
      where
        some : (p l e d q : ℕ) → p + l ≡ e → e + d ≡ q → p < q → 0 < l + d
        some p l e d q i j h = omega arith

        one : {l d : ℕ} {x y : Float} → count from + l ≡ count e → count e + d ≡ count next → Clear x → Clear y → Line (count (mix_at from next x y e)) (count x) (count y) l d (2 ^ 149)
        one {l} {d} {x} {y} i j u v =
            line_at from next e x y wp wq we u v (below k e at_e) end l d i j (some (count from) l (count e) d (count next) i j counts)
