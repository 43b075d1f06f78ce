-- What passes as GIMP segments passes too where they may be curved, and has the same colours. Assumes nothing.
use mathlib.Core.Path.{◌≡◌, refl, sym, ◌∙◌, ap}
use mathlib.Core.Bool.{Bool, true, false, cond, ◌&&◌, ◌||◌, true≢false}
use mathlib.Core.List.{List}
use Prim.Native.Nat.{ℕ, zero, suc}
use native.Mathlib.Omega.{arith}
use lib.Dec.{leb, eqb}
use lib.ListN.{length}
use lib.Ieee.{Float}
use borrow.Author.Tests.{eqb-true}
use Rattle.refusals.specs.Refusals.{misshapen}
use Rattle.float.proofs.Flags.{both_l, both_r}
use Rattle.stops.specs.Lent.{ramp_of}
use Rattle.stops.specs.declared.Kind.TheVariants.{Gimp, GimpSaved}
use Rattle.stops.specs.declared.Checked.{Checked}
use Rattle.stops.specs.declared.Checked.TheVariants.{Fine, Refused}
use Rattle.gradient.specs.Gimp.{segments, linear_code, curved_code, sinusoidal_code, increasing_code, decreasing_code, step_code, falling_code, in_order, carried, carried_at, all_carried, gimp_shaped, gimp_check}
use Rattle.gradient.specs.Ramp.{check_of, colour_of}

-- the blendings of which nothing is asked
abbrev others : ℕ → Bool
others b = eqb b linear_code || eqb b increasing_code || eqb b decreasing_code || eqb b step_code

taken_too : (c k i s o : Bool) → (c ≡ true → o ≡ false) → (k && cond (cond c false s) i o) ≡ true → (k && cond (cond c true s) i o) ≡ true
taken_too true true i s o w h = absurd (true≢false (sym h ∙ w refl))
taken_too true false i s o w h = h
taken_too false k i s o w h = h

-- what kind 5 carries, kind 6 carries
pub carried_too : (b k : ℕ) (l m r : Float) → carried Gimp b k l m r ≡ true → carried GimpSaved b k l m r ≡ true
unfolding carried
carried_too b k l m r h = taken_too (eqb b curved_code) (leb k falling_code) (in_order l m r) (eqb b sinusoidal_code) (others b) (λ e. ap others (eqb-true b curved_code e)) h

all_too : (n i : ℕ) (ps : List Float) (ks : List ℕ) → all_carried Gimp n i ps ks ≡ true → all_carried GimpSaved n i ps ks ≡ true
unfolding all_carried
all_too zero i ps ks h = refl
all_too (suc n) i ps ks h =
    simp (
      carried_too _ _ _ _ _ (both_l (carried_at Gimp ps ks i) (all_carried Gimp n (suc i) ps ks) h),
      all_too n (suc i) ps ks (both_r (carried_at Gimp ps ks i) (all_carried Gimp n (suc i) ps ks) h),
    )

passes_too : (s a b : Bool) (x : Checked) → (a ≡ true → b ≡ true) → cond (s && a) x (Refused misshapen) ≡ Fine → cond (s && b) x (Refused misshapen) ≡ Fine
passes_too true true b x w h = simp (w refl) h
passes_too true false b x w h = let z : ◌≡◌ {A = ℕ} 0 1 = cc in absurd (omega arith)
passes_too false a b x w h = h

module _ (ps cs : List Float) (ks : List ℕ) where
  pub saved_fine : check_of (ramp_of Gimp ps cs ks) ≡ Fine → check_of (ramp_of GimpSaved ps cs ks) ≡ Fine
  unfolding check_of gimp_check
  saved_fine h =
      passes_too (gimp_shaped (segments ps) (length ps) (length cs) (length ks)) (all_carried Gimp (segments ps) 0 ps ks) (all_carried GimpSaved (segments ps) 0 ps ks) _
      (all_too (segments ps) 0 ps ks)
      h

  pub saved_colour : (t : Float) → colour_of (ramp_of GimpSaved ps cs ks) t ≡ colour_of (ramp_of Gimp ps cs ks) t
  unfolding colour_of
  saved_colour t = refl
