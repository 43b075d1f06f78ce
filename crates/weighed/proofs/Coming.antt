-- One step of the merge, by what is next in the two lists. Assumes nothing.
use mathlib.Core.Path.{◌≡◌, refl, sym, ap, ◌∙◌}
use mathlib.Core.Bool.{Bool, true, false, cond, ◌&&◌}
use mathlib.Core.List.{List, [], ◌∷◌, ◌++◌}
use Prim.Native.Nat.{ℕ, zero, suc, ◌+◌, ◌≤◌}
use native.Mathlib.Omega.{arith}
use lib.ListN.{length}
use lib.Ieee.{Float, lt}
use Rattle.float.proofs.Order.{lt_irrefl}
use Rattle.weighed.specs.Points.{Site, site, sampled_mark, inside, merged}

module _ (max : Float) where
  -- with as many steps as there are points in both
  abbrev pub come : Float → List Float → List Site → List Site
  come last ts os = merged max (length ts + length os) last ts os

  -- the next of the record, if there is one, lies between; and is not less than u
  abbrev pub HeadIn : Float → List Float → Type 0
  HeadIn last [] = Unit {0}
  HeadIn last (t ∷ ts) = inside max last t ≡ true

  abbrev pub HeadAfter : Float → List Float → Type 0
  HeadAfter u [] = Unit {0}
  HeadAfter u (t ∷ ts) = lt t u ≡ false

  -- the next of the others, if there is one, lies between, and is more than t
  abbrev pub OwnAfter : Float → Float → List Site → Type 0
  OwnAfter last t [] = Unit {0}
  OwnAfter last t (o ∷ os) = (inside max last o.t ≡ true) × (lt t o.t ≡ true)

  pass_by : (k n : ℕ) (last t : Float) (ts : List Float) (os : List Site) → k ≡ suc n → inside max last t ≡ false → merged max k last (t ∷ ts) os ≡ merged max n last ts os
  unfolding merged
  pass_by k n last t ts [] e h = rw (e, h)
  pass_by k n last t ts (o ∷ os) e h = rw (e, h)

  pub pass_record : (last t : Float) (l ts : List Float) (os : List Site) → l ≡ t ∷ ts → inside max last t ≡ false → come last ts os ≡ come last l os
  pass_record last t l ts os e h =
      sym (ap (λ (x : List Float). come last x os) e ∙ pass_by (length (t ∷ ts) + length os) (length ts + length os) last t ts os (omega arith) h)

  skip_by : (k n : ℕ) (last : Float) (ts : List Float) (o : Site) (os : List Site) → k ≡ suc n → HeadIn last ts → inside max last o.t ≡ false
      → merged max k last ts (o ∷ os) ≡ merged max n last ts os
  unfolding merged
  skip_by k n last [] o os e i h = rw (e, h)
  skip_by k n last (t ∷ ts) o os e i h = rw (e, i, h)

  pub pass_own : (last : Float) (ts : List Float) (o : Site) (l os : List Site) → l ≡ o ∷ os → HeadIn last ts → inside max last o.t ≡ false → come last ts os ≡ come last ts l
  pass_own last ts o l os e i h =
      sym (ap (λ (x : List Site). come last ts x) e ∙ skip_by (length ts + length (o ∷ os)) (length ts + length os) last ts o os (omega arith) i h)

  own_by : (k n : ℕ) (last : Float) (ts : List Float) (o : Site) (os : List Site) → k ≡ suc n → HeadIn last ts → HeadAfter o.t ts → inside max last o.t ≡ true
      → merged max k last ts (o ∷ os) ≡ o ∷ merged max n o.t ts os
  unfolding merged
  own_by k n last [] o os e i a h = rw (e, h)
  own_by k n last (t ∷ ts) o os e i a h = rw (e, i, h, a)

  pub take_own : (last : Float) (ts : List Float) (o : Site) (l os : List Site) → l ≡ o ∷ os → HeadIn last ts → HeadAfter o.t ts → inside max last o.t ≡ true
      → o ∷ come o.t ts os ≡ come last ts l
  take_own last ts o l os e i a h =
      sym (ap (λ (x : List Site). come last ts x) e ∙ own_by (length ts + length (o ∷ os)) (length ts + length os) last ts o os (omega arith) i a h)

  record_by : (k n : ℕ) (last t : Float) (ts : List Float) (os : List Site) → k ≡ suc n → inside max last t ≡ true → OwnAfter last t os
      → merged max k last (t ∷ ts) os ≡ site t sampled_mark ∷ merged max n t ts os
  unfolding merged
  record_by k n last t ts [] e h a = rw (e, h)
  record_by k n last t ts (o ∷ os) e h a = rw (e, h, a.0, a.1)

  pub take_record : (last t : Float) (l ts : List Float) (os : List Site) → l ≡ t ∷ ts → inside max last t ≡ true → OwnAfter last t os
      → site t sampled_mark ∷ come t ts os ≡ come last l os
  take_record last t l ts os e h a =
      sym (ap (λ (x : List Float). come last x os) e ∙ record_by (length (t ∷ ts) + length os) (length ts + length os) last t ts os (omega arith) h a)

  -- ---- max itself is passed over
  max_out : (last : Float) → inside max last max ≡ false
  unfolding inside
  max_out last = go (lt last max)
    where
      go : (b : Bool) → (b && lt max max) ≡ false
      go true = lt_irrefl max
      go false = refl

  -- with max after them the points are the same
  pick : (b : Bool) (x y x' y' : List Site) → x ≡ x' → y ≡ y' → cond b x y ≡ cond b x' y'
  pick true x y x' y' p q = p
  pick false x y x' y' p q = q

  first : (x : Site) (l l' : List Site) → l ≡ l' → x ∷ l ≡ x ∷ l'
  first x l l' e = ap (λ (m : List Site). x ∷ m) e

  none_left : (n : ℕ) (last : Float) (os : List Site) → merged max (suc n) last (max ∷ []) os ≡ merged max n last [] os
  none_left n last os = pass_by (suc n) n last max [] os refl (max_out last)

  pub without_max : (n : ℕ) (last : Float) (ts : List Float) (os : List Site) → length ts + length os ≤ n → merged max (suc n) last (ts ++ max ∷ []) os ≡ merged max n last ts os
  unfolding merged
  without_max n last [] os h = none_left n last os
  without_max zero last (t ∷ ts) os h = absurd (omega arith)
  without_max (suc n) last (t ∷ ts) [] h = pick (inside max last t) _ _ _ _ (first (site t sampled_mark) _ _ (without_max n t ts [] (omega arith))) (without_max n last ts [] (omega arith))
  without_max (suc n) last (t ∷ ts) (o ∷ os) h =
      pick (inside max last t) _ _ _ _
      (pick (inside max last o.t) _ _ _ _
      (pick (lt t o.t) _ _ _ _ (first (site t sampled_mark) _ _ (without_max n t ts (o ∷ os) (omega arith))) (first o _ _ (without_max n o.t (t ∷ ts) os (omega arith))))
      (without_max n last (t ∷ ts) os (omega arith)))
      (without_max n last ts (o ∷ os) (omega arith))
