-- Strictly between two neighbouring positions of a linear ramp, and off the f32 just above the first: there a list that keeps its word, and whose stops lie on the ramp, is nearly held. Assumes nothing.
use mathlib.Core.Path.{◌≡◌, refl, sym, subst}
use mathlib.Core.Bool.{Bool, true, false}
use mathlib.Core.List.{List}
use Prim.Native.Nat.{ℕ, suc, ◌+◌, ◌-◌, ◌*◌, ◌^◌, ◌≤◌, ◌<◌}
use native.Mathlib.Nat.{le_refl as le_refl_ℕ}
use native.Mathlib.Omega.{arith}
use lib.Dec.{T}
use lib.Pow.{pow_pos}
use lib.ListN.{length}
use lib.Ieee.{Float, le, lt}
use lib.Ieee.Scale.{finite}
use Rattle.float.specs.Units.{count}
use Rattle.float.proofs.Order.{as_T, le_trans, lt→le, le_from_not_lt, le_lt_trans, lt-le_trans, no_nan_l, no_nan_r, finite_between}
use Rattle.float.proofs.Placed.{Placed, placed, place_le}
use Rattle.blend.specs.declared.Rgba.{Rgba}
use Rattle.blend.specs.Channels.{colours_of}
use Rattle.difference.specs.Measure.{Plain}
use Rattle.difference.proofs.Legs.{Four}
use Rattle.difference.proofs.Measuring.{ClearColour}
use Rattle.stops.specs.Lent.{Ramp}
use Rattle.stops.specs.Stops.{pos_at, colour_at}
use Rattle.stops.specs.declared.Kind.TheVariants.{Linear}
use Rattle.gradient.specs.Ramp.{colour_of}
use Rattle.judge.specs.Lists.{Offer, offer_of, offered_ramp}
use Rattle.ordinary.proofs.Unrefused.{colour_written}
use Rattle.word.specs.Everywhere.{miss_of, NearlyHeld}
use Rattle.word.proofs.Singles.{Single}
use Rattle.word.proofs.TwoLines.{MixedFour, ApartBy}
use Rattle.word.proofs.ThreePlaces.{four_start, four_end, same_apart}
use Rattle.word.proofs.ClearDistance.{units_of, bound, plain_distance, no_more, turned, near_apart, apart_near}
use Rattle.word.proofs.Ladders.{Ladder, place_lt, pair_mixed, pair_clear}
use Rattle.word.proofs.Knots.{Knot, First, Last, between_knots}

module _ (ramp : Ramp) (of_kind : ramp.kind ≡ Linear) (own : Ladder ramp.positions) (clear : (x : Float) → ClearColour (colour_of ramp x)) (stop_clear : (i : ℕ) → i < length ramp.positions → ClearColour (colour_at ramp.channels i))
    (ls : List Float) (listed : Ladder ls) (one_end : pos_at ls (length ls - 1) ≡ pos_at ramp.positions (length ramp.positions - 1)) (hold : Float) (plain_hold : Plain hold) (small : 28 * count hold ≤ 2 ^ 149) where
  abbrev ps : List Float
  ps = ramp.positions

  abbrev g : Float → Rgba
  g = colour_of ramp

  abbrev offer : Offer
  offer = offer_of ls (colours_of g ls)

  abbrev f : Float → Rgba
  f = colour_of (offered_ramp offer)

  abbrev m : ℕ
  m = 2 ^ 277

  abbrev h : ℕ
  h = bound (count hold) (2 ^ 76)

  -- ---- a pair of the ramp's, and one of the list's
  module _ (j : ℕ) (inside : suc j < length ps) (i : ℕ) (inside' : suc i < length ls) where
    abbrev p : Float
    p = pos_at ps j

    abbrev q : Float
    q = pos_at ps (suc j)

    abbrev s : Float
    s = pos_at ls i

    abbrev e : Float
    e = pos_at ls (suc i)

    at_p : (P : ℕ) × Placed m p P
    at_p = placed p (own.singles j (omega arith)) (own.whole j (omega arith))

    at_q : (Q : ℕ) × Placed m q Q
    at_q = placed q (own.singles (suc j) inside) (own.whole (suc j) inside)

    at_s : (S : ℕ) × Placed m s S
    at_s = placed s (listed.singles i (omega arith)) (listed.whole i (omega arith))

    at_e : (E : ℕ) × Placed m e E
    at_e = placed e (listed.singles (suc i) inside') (listed.whole (suc i) inside')

    abbrev a : Four
    a = units_of (colour_at ramp.channels j)

    abbrev b : Four
    b = units_of (colour_at ramp.channels (suc j))

    abbrev Meets : ℕ → Four → Four → Type 0
    Meets x r l = Knot (2 ^ 149) at_p.0 at_q.0 at_s.0 at_e.0 a b (units_of (g s)) (units_of (g e)) x r l

    -- below q, so before the last
    before : (x : Float) → T (lt x q) → T (lt x (pos_at ps (length ps - 1)))
    before x l = lt-le_trans x q (pos_at ps (length ps - 1)) l (own.rising (suc j) (length ps - 1) (omega arith) (omega arith))

    before' : (x : Float) → T (lt x q) → T (lt x (pos_at ls (length ls - 1)))
    before' x l = subst (λ (y : Float). T (lt x y)) (sym one_end) (before x l)

    ramp_line : (x : Float) (X : ℕ) → Placed m x X → T (lt p x) → T (lt x q) → (τ σ : ℕ) → at_p.0 + τ ≡ X → X + σ ≡ at_q.0 → MixedFour (2 ^ 149) τ σ a b (units_of (g x))
    ramp_line x X at_x from to =
        pair_mixed ramp of_kind own j inside (colour_at ramp.channels j) (colour_at ramp.channels (suc j)) refl refl (stop_clear j (omega arith)) (stop_clear (suc j) inside) m at_p.0 at_q.0 at_p.1 at_q.1
        x X at_x from (lt→le x q to) (before x to)

    list_line : (x : Float) (X : ℕ) → Placed m x X → T (lt x q) → T (lt s x) → T (le x e) → (τ σ : ℕ) → at_s.0 + τ ≡ X → X + σ ≡ at_e.0 → MixedFour (2 ^ 149) τ σ (units_of (g s)) (units_of (g e)) (units_of (f x))
    list_line x X at_x below from to =
        pair_mixed (offered_ramp offer) refl listed i inside' (g s) (g e) (colour_written g ls i (omega arith)) (colour_written g ls (suc i) inside') (clear s) (clear e) m at_s.0 at_e.0 at_s.1 at_e.1
        x X at_x from to (before' x below)

    list_clear : (x : Float) → T (lt x q) → T (lt s x) → T (le x e) → ClearColour (f x)
    list_clear x below from to =
        pair_clear (offered_ramp offer) refl listed i inside' (g s) (g e) (colour_written g ls i (omega arith)) (colour_written g ls (suc i) inside') (clear s) (clear e) m at_s.0 at_e.0 at_s.1 at_e.1
        x from to (before' x below)

    -- both mixed
    both : (x : Float) (X : ℕ) → Placed m x X → T (lt p x) → T (lt x q) → T (lt s x) → T (le x e) → Meets X (units_of (g x)) (units_of (f x))
    both x X at_x after below from to = record { ramp = ramp_line x X at_x after below; list = list_line x X at_x below from to }

    near_there : (x : Float) → T (lt x q) → T (lt s x) → T (le x e) → T (le (miss_of ramp offer x) hold) → ApartBy h (units_of (f x)) (units_of (g x))
    near_there x below from to near =
        near_apart (g x) (f x) (clear x) (list_clear x below from to) (count hold) (no_more (g x) (f x) (clear x) (list_clear x below from to) hold plain_hold near)

    -- at a stop of the list, which lies on the ramp
    at_first : T (lt p s) → T (lt s q) → Meets at_s.0 (units_of (g s)) (units_of (g s))
    at_first after below = record { ramp = ramp_line s at_s.0 at_s.1 after below; list = λ τ σ come left. subst (λ (n : ℕ). MixedFour (2 ^ 149) n σ (units_of (g s)) (units_of (g e)) (units_of (g s))) (none at_s.0 τ come) (four_start (2 ^ 149) σ (units_of (g s)) (units_of (g e))) }
      where
        none : (x τ : ℕ) → x + τ ≡ x → 0 ≡ τ
        none x τ e = omega arith

    at_last : T (lt p e) → T (lt e q) → Meets at_e.0 (units_of (g e)) (units_of (g e))
    at_last after below = record { ramp = ramp_line e at_e.0 at_e.1 after below; list = λ τ σ come left. subst (λ (n : ℕ). MixedFour (2 ^ 149) τ n (units_of (g s)) (units_of (g e)) (units_of (g e))) (none at_e.0 σ left) (four_end (2 ^ 149) τ (units_of (g s)) (units_of (g e))) }
      where
        none : (x τ : ℕ) → x + τ ≡ x → 0 ≡ τ
        none x τ e = omega arith

    -- ---- p < u < t ≤ v < q, and s < t ≤ e; within the hold at u and at v
    module _ (u t v : Float) (su : Single u) (st : Single t) (sv : Single v) (pu : T (lt p u)) (ut : T (lt u t)) (tv : T (le t v)) (vq : T (lt v q)) (from : T (lt s t)) (to : T (le t e))
        (near_u : T (le (miss_of ramp offer u) hold)) (near_v : T (le (miss_of ramp offer v) hold)) where
      fq : T (finite q)
      fq = own.whole (suc j) inside

      fp : T (finite p)
      fp = own.whole j (omega arith)

      tq : T (lt t q)
      tq = le_lt_trans t v q tv vq

      uq : T (lt u q)
      uq = lt-le_trans u t q ut (lt→le t q tq)

      pt : T (lt p t)
      pt = lt-le_trans p u t pu (lt→le u t ut)

      pv : T (lt p v)
      pv = lt-le_trans p t v pt tv

      at_u : (U : ℕ) × Placed m u U
      at_u = placed u su (finite_between p u q fp fq (lt→le p u pu) (lt→le u q uq))

      at_t : (R : ℕ) × Placed m t R
      at_t = placed t st (finite_between p t q fp fq (lt→le p t pt) (lt→le t q tq))

      at_v : (W : ℕ) × Placed m v W
      at_v = placed v sv (finite_between p v q fp fq (lt→le p v pv) (lt→le v q vq))

      first : First (2 ^ 149) at_p.0 at_q.0 at_s.0 at_e.0 a b (units_of (g s)) (units_of (g e)) h at_t.0
      first = go (lt s u) refl
        where
          ue : T (le u e)
          ue = le_trans u t e (lt→le u t ut) to

          go : (y : Bool) → lt s u ≡ y → First (2 ^ 149) at_p.0 at_q.0 at_s.0 at_e.0 a b (units_of (g s)) (units_of (g e)) h at_t.0
          go true d =
              let su = as_T _ d in
              record {
                at = at_u.0;
                r = units_of (g u);
                l = units_of (f u);
                knot = both u at_u.0 at_u.1 pu uq su ue;
                near = near_there u uq su ue near_u;
                from_ramp = place_le m p u _ _ at_p.1 at_u.1 (lt→le p u pu);
                from_list = place_le m s u _ _ at_s.1 at_u.1 (lt→le s u su);
                before = place_lt m u t _ _ at_u.1 at_t.1 ut;
              }
          go false d =
              let us = le_from_not_lt s u (no_nan_l s t (lt→le s t from)) (no_nan_l u t (lt→le u t ut)) d in
              let ps = lt-le_trans p u s pu us in
              let sq = lt-le_trans s t q from (lt→le t q tq) in
              record {
                at = at_s.0;
                r = units_of (g s);
                l = units_of (g s);
                knot = at_first ps sq;
                near = same_apart h (units_of (g s));
                from_ramp = place_le m p s _ _ at_p.1 at_s.1 (lt→le p s ps);
                from_list = le_refl_ℕ at_s.0;
                before = place_lt m s t _ _ at_s.1 at_t.1 from;
              }

      last : Last (2 ^ 149) at_p.0 at_q.0 at_s.0 at_e.0 a b (units_of (g s)) (units_of (g e)) h at_t.0
      last = go (lt e v) refl
        where
          go : (y : Bool) → lt e v ≡ y → Last (2 ^ 149) at_p.0 at_q.0 at_s.0 at_e.0 a b (units_of (g s)) (units_of (g e)) h at_t.0
          go false d =
              let ve = le_from_not_lt e v (no_nan_r t e to) (no_nan_r t v tv) d in
              let sv = lt-le_trans s t v from tv in
              record {
                at = at_v.0;
                r = units_of (g v);
                l = units_of (f v);
                knot = both v at_v.0 at_v.1 pv vq sv ve;
                near = near_there v vq sv ve near_v;
                to_ramp = place_le m v q _ _ at_v.1 at_q.1 (lt→le v q vq);
                to_list = place_le m v e _ _ at_v.1 at_e.1 ve;
                after = place_le m t v _ _ at_t.1 at_v.1 tv;
              }
          go true d =
              let ev = as_T _ d in
              let eq = lt-le_trans e v q ev (lt→le v q vq) in
              record {
                at = at_e.0;
                r = units_of (g e);
                l = units_of (g e);
                knot = at_last (lt-le_trans p t e pt to) eq;
                near = same_apart h (units_of (g e));
                to_ramp = place_le m e q _ _ at_e.1 at_q.1 (lt→le e q eq);
                to_list = le_refl_ℕ at_e.0;
                after = place_le m t e _ _ at_t.1 at_e.1 to;
              }

      pub nearly : NearlyHeld ramp offer hold t
      nearly =
          let wf = list_clear t tq from to in
          record {
            plain = plain_distance (g t) (f t) (clear t) wf;
            most = apart_near (g t) (f t) (clear t) wf (count hold) small
                (turned (f t) (g t) wf (clear t) (h + 816 * 2 ^ 149)
                (between_knots (2 ^ 149) at_p.0 at_q.0 at_s.0 at_e.0 a b (units_of (g s)) (units_of (g e)) h at_t.0 some (pow_pos 149) first last (units_of (g t)) (units_of (f t)) (both t at_t.0 at_t.1 pt tq from to)));
          }
        where
          some : 0 < h
          some = above (count hold) (2 ^ 76)
            where
              above : (x y : ℕ) → 0 < bound x y
              above x y = omega arith
