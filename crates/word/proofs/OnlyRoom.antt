-- A ramp whose colours lie within ±16,382 has a list that is refused for want of room alone, 7; of the calls. Assumes nothing.
use mathlib.Core.Path.{◌≡◌, refl, sym, ap, ◌∙◌, subst}
use mathlib.Core.Bool.{Bool, true, false, cond}
use mathlib.Core.List.{List, [], ◌∷◌}
use mathlib.Core.Logic.{◌⊎◌, inl, inr}
use Prim.Native.Nat.{ℕ, zero, suc, ◌+◌, min}
use native.Mathlib.Omega.{arith}
use lib.Dec.{T, leb}
use lib.ListN.{length}
use lib.Ieee.{Float, le, lt}
use lib.Ieee.Bits.{is_true}
use lib.Ieee.Scale.{finite}
use Rattle.refusals.specs.Refusals.{no_room, not_shown}
use Rattle.float.proofs.Order.{lt→le, le_refl, le_trans, lt_irrefl, finite_between, no_nan_l, no_nan_r, as_T}
use Rattle.blend.specs.declared.Rgba.{Rgba}
use Rattle.stops.specs.Lent.{Ramp}
use Rattle.stops.specs.Stops.{finite_rgba}
use Rattle.stops.specs.declared.Checked.TheVariants as checked
use Rattle.gradient.specs.Ramp.{check_of, min_of, max_of, colour_of}
use Rattle.sampling.specs.Constants.{threshold_of}
use Rattle.sampling.specs.Midpoints.{Gradient}
use Rattle.thinning.specs.Kept.{stop_refusal, first_refusal}
use Rattle.judge.specs.Lists.{most_listed}
use Rattle.refresh.specs.reach.KeptCells.{is_domain}
use Rattle.ordinary.specs.Ordinary.{Singles}
use Rattle.ordinary.proofs.Rising.{ends, low_finite, high_finite}
use Rattle.weighed.specs.Points.{Site, own_of, sites_of}
use Rattle.within.specs.Shown.{near_within}
use Rattle.within.specs.Kept.{Kept, kept_from, kept_all, positions_of, kept_refusal, kept_refusals}
use Rattle.within.specs.Lists.{hold_of, kept_of, refusal_within}
use Rattle.word.proofs.Weighed.{AllShown}
use Rattle.weighed.proofs.Merging.{rises, none}
use Rattle.word.proofs.Ends.{Climbs, last_of, kept_last, kept_climbs}
use Rattle.word.specs.Word.{TameColour, TameOnDomain}
use Rattle.word.proofs.Singles.{Every, Single}
use Rattle.word.proofs.Emitted.{one_left}
use Rattle.word.proofs.EndChannel.{tame_finite}
use Rattle.word.proofs.NeverNotShown.{all_shown}

-- ---- positions that climb from a lie up to the last of them
last_high : (a : Float) (ps : List Float) → T (le a a) → Climbs a ps → T (le a (last_of a ps))
last_high a [] r w = r
last_high a (p ∷ ps) r w = le_trans a p (last_of p ps) (lt→le a p w.0) (last_high p ps (le_refl p (no_nan_r a p (lt→le a p w.0))) w.1)

climbs_every : (lo a : Float) (ps : List Float) → T (le lo a) → Climbs a ps → Every (λ p. T (le lo p) × T (le p (last_of a ps))) ps
climbs_every lo a [] h w = tt
climbs_every lo a (p ∷ ps) h w =
    let up = le_trans lo a p h (lt→le a p w.0) in
    ((up, last_high p ps (le_refl p (no_nan_r lo p up)) w.1), climbs_every lo p ps up w.1)

all_finite : (c : Rgba) → TameColour c → finite_rgba c ≡ true
all_finite c w =
    rw (is_true (finite c.r) (tame_finite c.r w.red), is_true (finite c.g) (tame_finite c.g w.green), is_true (finite c.b) (tame_finite c.b w.blue), is_true (finite c.a) (tame_finite c.a w.alpha))

-- ---- a stop
stop_only : (room n : ℕ) (t : Float) (c : Rgba) → finite t ≡ true → finite_rgba c ≡ true → (stop_refusal room n t t c ≡ 0) ⊎ (stop_refusal room n t t c ≡ no_room)
unfolding stop_refusal
stop_only room n t c f k = rw (f, k, lt_irrefl t) (go (leb room n))
  where
    go : (b : Bool) → (cond b no_room 0 ≡ 0) ⊎ (cond b no_room 0 ≡ no_room)
    go true = inr refl
    go false = inl refl

both_only : (a b : ℕ) → (a ≡ 0) ⊎ (a ≡ no_room) → (b ≡ 0) ⊎ (b ≡ no_room) → (first_refusal a b ≡ 0) ⊎ (first_refusal a b ≡ no_room)
both_only zero b p q = q
both_only (suc a) b p q = p

shown_only : (b : Bool) → b ≡ true → (cond b 0 not_shown ≡ 0) ⊎ (cond b 0 not_shown ≡ no_room)
shown_only b e = rw e (inl refl)

module _ (ramp : Ramp) (asked hold : Float) (domain : is_domain (min_of ramp) (max_of ramp) ≡ true) (passes : check_of ramp ≡ checked.Fine) (singles : Singles ramp.positions) (tame : TameOnDomain ramp)
    (ts : List Float) (points : Every Single ts) where
  abbrev lo : Float
  lo = min_of ramp

  abbrev hi : Float
  hi = max_of ramp

  abbrev g : Gradient
  g = colour_of ramp

  abbrev In : Float → Type 0
  In p = T (le lo p) × T (le p hi)

  kept_only : (room n : ℕ) (ks : List Kept) → AllShown ks → Every In (positions_of ks) → (kept_refusals g room n ks ≡ 0) ⊎ (kept_refusals g room n ks ≡ no_room)
  unfolding kept_refusals kept_refusal
  kept_only room n [] w v = inl refl
  kept_only room n (k ∷ ks) w v =
      let t = k.t in
      let d = v.0 in
      both_only (first_refusal (stop_refusal room n t t (g t)) (cond k.shown 0 not_shown)) (kept_refusals g room (n + 1) ks)
      (both_only (stop_refusal room n t t (g t)) (cond k.shown 0 not_shown)
      (stop_only room n t (g t) (is_true _ (finite_between lo t hi (low_finite lo hi domain) (high_finite lo hi domain) d.0 d.1)) (all_finite (g t) (tame t (record { lower = d.0; upper = d.1 }))))
      (shown_only k.shown w.0))
      (kept_only room (n + 1) ks w.1 v.1)

  in_domain : Every In (positions_of (kept_of ramp asked hold ts))
  unfolding kept_of kept_all sites_of
  in_domain = ((same, ordered), go (lt lo hi) refl)
    where
      ordered : T (le lo hi)
      ordered = (ends lo hi domain).1

      same : T (le lo lo)
      same = le_refl lo (no_nan_l lo hi ordered)

      n : ℕ
      n = length ts + length (own_of ramp.positions)

      kept : List Site → List Float
      kept ss = positions_of (kept_from g (near_within (threshold_of asked) (hold_of asked hold)) hi (suc (length ss)) lo ss)

      go : (b : Bool) → lt lo hi ≡ b → Every In (kept (sites_of ramp ts))
      go true e =
          unfold sites_of in
          let near = near_within (threshold_of asked) (hold_of asked hold) in
          let sites = sites_of ramp ts in
          subst (λ (last : Float). Every (λ p. T (le lo p) × T (le p last)) (kept sites)) (kept_last g near hi (suc (length sites)) lo sites (omega arith))
          (climbs_every lo lo (kept sites) same (kept_climbs g near hi (suc (length sites)) lo sites (omega arith) (rises hi n lo ts (own_of ramp.positions) (as_T _ e))))
      go false e =
          unfold sites_of in
          subst (λ (ps : List Float). Every In ps)
          (sym (ap kept (none hi n lo ts (own_of ramp.positions) (λ h. subst T e h)) ∙ one_left g (near_within (threshold_of asked) (hold_of asked hold)) hi lo))
          ((ordered, le_refl hi (no_nan_r lo hi ordered)), tt)

  pub only_room : (room : ℕ) → (refusal_within ramp asked hold room ts ≡ 0) ⊎ (refusal_within ramp asked hold room ts ≡ no_room)
  unfolding refusal_within
  only_room room = kept_only (min room most_listed) 0 (kept_of ramp asked hold ts) (all_shown ramp asked hold domain passes singles tame ts points) in_domain
