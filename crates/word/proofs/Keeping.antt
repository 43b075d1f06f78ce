-- A list within a hold keeps its word, of any points at all: at every lent position in the domain and its two neighbours it is within the hold of the ramp. Assumes nothing.
use mathlib.Core.Path.{◌≡◌, refl, sym, ◌∙◌, subst}
use mathlib.Core.Bool.{Bool, true, false, cond, ◌&&◌, true≢false}
use mathlib.Core.List.{List, [], ◌∷◌}
use mathlib.Core.Logic.{inl, inr}
use Prim.Native.Nat.{ℕ, suc, ◌+◌, ◌<◌}
use native.Mathlib.Omega.{arith}
use lib.Dec.{T, eqb}
use lib.ListN.{length}
use lib.Ieee.{Float, lt, eq}
use Rattle.float.specs.F32.{f0}
use Rattle.float.proofs.Order.{le_refl, no_nan_l}
use Rattle.stops.specs.Lent.{Ramp}
use Rattle.stops.specs.Stops.{pos_at}
use Rattle.stops.specs.Place.{Rising}
use Rattle.stops.specs.declared.Checked.TheVariants.{Fine}
use Rattle.gradient.specs.Ramp.{is_gimp, check_of, min_of, max_of}
use Rattle.judge.specs.Lists.{Offer}
use Rattle.ordinary.specs.Ordinary.{Singles}
use Rattle.weighed.specs.Points.{Site, site, sampled_mark, beside_mark, lent_mark, own_of, sites_of}
use Rattle.float.specs.Number.{above_of, below_of}
use Rattle.within.specs.Lists.{hold_of, list_within, refusal_within}
use Rattle.word.specs.Word.{NearBy, HeldAt, KeepsWord, NeverFalling}
use Rattle.word.proofs.Weighed.{site_in, above_all, lt_trans}
use Rattle.weighed.proofs.Merging.{Led, Each, Number, Marked, Found, rises, own_found}
use Rattle.weighed.proofs.Own.{NeverFalls, own_marked, number_at, lent_led, below_led, above_led}
use Rattle.float.proofs.Adjacent.{One, above_rises, below_rises}
use Rattle.word.proofs.NearPoints.{near_min, near_max, near_point}
use Rattle.word.proofs.Singles.{Every, Single, each_then, each_merged, own_single, above_single, below_single}
use Rattle.word.proofs.Values.{Inner, min-zero, everywhere}
use Rattle.word.proofs.Falling.{position_finite, positions_rise, ends_rise}

-- ---- a point that was found, by its number
record Numbered (s : Site) (l : List Site) : Type 0 where
  i : ℕ
  inside : i < length l
  same : T (eq (site_in l i).t s.t)
  marked : Marked (site_in l i)
  single : Single (site_in l i).t

numbered : (s : Site) (l : List Site) → Each (λ x. Marked x → Single x.t) l → Found s l → Numbered s l
numbered s [] v w = absurd w
numbered s (x ∷ l) v (inl w) = record { i = 0; inside = omega arith; same = w.0; marked = w.1; single = v.0 w.1 }
numbered s (x ∷ l) v (inr w) =
    let r = numbered s l v.1 w in
    let k = r.inside in
    record { i = suc r.i; inside = omega arith; same = r.same; marked = r.marked; single = r.single }

-- nothing is asked of the record's points
no_mark : (ts : List Float) → Every (λ t. Marked (site t sampled_mark) → Single t) ts
no_mark [] = tt
no_mark (t ∷ ts) = (λ e. absurd (true≢false e), no_mark ts)

module _ (ramp : Ramp) (asked hold : Float) (room : ℕ) (ts : List Float) (passes : check_of ramp ≡ Fine) (singles : Singles ramp.positions) (done : refusal_within ramp asked hold room ts ≡ 0) where
  abbrev lo : Float
  lo = min_of ramp

  abbrev hi : Float
  hi = max_of ramp

  abbrev off : Float
  off = hold_of asked hold

  abbrev offer : Offer
  offer = list_within ramp asked hold ts

  abbrev sites : List Site
  sites = sites_of ramp ts

  own_points : Each (λ s. Marked s → Single s.t) sites
  unfolding sites_of
  own_points = each_merged (λ s. Marked s → Single s.t) hi _ lo ts (own_of ramp.positions) (no_mark ts)
      (each_then (λ s. Single s.t) (λ s. Marked s → Single s.t) (λ s w e. w) (own_of ramp.positions) (own_single ramp.positions singles))

  at_min : NearBy ramp offer off lo
  at_min = near_min ramp asked hold ts room done (le_refl lo (no_nan_l lo hi (ends_rise ramp passes)))

  module _ (s : Site) (number : Number s) (single : Single s.t) (led : Led s (own_of ramp.positions)) where
    inner : T (lt lo s.t) → T (lt s.t hi) → Inner ramp offer off s.t
    unfolding sites_of
    inner lower upper =
        let wide = lt_trans lo s.t hi lower upper in
        let n = length ts + length (own_of ramp.positions) in
        let r = numbered s sites own_points (own_found hi s number upper n lo ts (own_of ramp.positions) (omega arith) (own_marked ramp.positions) lower led) in
        let m : eqb (site_in sites r.i).mark sampled_mark ≡ false = r.marked in
        record {
          x = (site_in sites r.i).t;
          single = r.single;
          same = r.same;
          above = above_all hi lo sites r.i (rises hi n lo ts (own_of ramp.positions) wide) r.inside;
          near = rw m at (near_point ramp asked hold ts room done wide r.i r.inside);
        }

    held : HeldAt ramp offer off s.t
    held d = go (is_gimp ramp.kind) (eq s.t f0) refl refl
      where
        off_zero : (is_gimp ramp.kind ≡ true → T (eq s.t f0) → ⊥) → NearBy ramp offer off s.t
        off_zero never =
            everywhere ramp offer off passes singles s.t single d.lower d.upper (λ e h. absurd (never e h)) inner at_min (near_max ramp asked hold ts room done)

        go : (a b : Bool) → is_gimp ramp.kind ≡ a → eq s.t f0 ≡ b → NearBy ramp offer off (cond (a && b) f0 s.t)
        go true true e f = subst (NearBy ramp offer off) (min-zero ramp e) at_min
        go true false e f = off_zero (λ k h. subst T f h)
        go false b e f = off_zero (λ k h. true≢false (sym k ∙ e))

  module _ (falling : NeverFalling ramp) where
    rising : Rising ramp.positions
    rising = positions_rise ramp passes falling

    one : (i : ℕ) → i < length ramp.positions → One (pos_at ramp.positions i)
    one i l = (singles i l, position_finite ramp passes i l)

    belows : NeverFalls below_of ramp.positions
    belows i j a b = below_rises (pos_at ramp.positions i) (pos_at ramp.positions j) (one i (omega arith)) (one j b) (rising i j a b)

    aboves : NeverFalls above_of ramp.positions
    aboves i j a b = above_rises (pos_at ramp.positions i) (pos_at ramp.positions j) (one i (omega arith)) (one j b) (rising i j a b)

    -- of any points, and so of any record
    pub keeps_word : KeepsWord ramp (list_within ramp asked hold ts) (hold_of asked hold)
    keeps_word =
        let ps = ramp.positions in
        record {
          at_lent = λ k l. held (site (pos_at ps k) lent_mark) (number_at ps k l rising) (singles k l) (lent_led ps k l rising);
          just_below =
              λ k l.
              held (site (below_of (pos_at ps k)) beside_mark) (no_nan_l _ _ (belows k k (omega arith) l)) (below_single (pos_at ps k)) (below_led ps k l rising belows aboves);
          just_above =
              λ k l.
              held (site (above_of (pos_at ps k)) beside_mark) (no_nan_l _ _ (aboves k k (omega arith) l)) (above_single (pos_at ps k)) (above_led ps k l rising belows aboves);
        }
