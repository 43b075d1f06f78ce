-- Every lent position strictly between min and max is among the points as one: at a tie it is taken before what stands beside it and before the record's. Assumes nothing.
use mathlib.Core.Path.{◌≡◌, refl, sym, ◌∙◌, subst}
use mathlib.Core.Bool.{Bool, true, false, cond, true≢false}
use mathlib.Core.List.{List, [], ◌∷◌}
use mathlib.Core.Logic.{◌⊎◌, inl, inr}
use Prim.Native.Nat.{ℕ, zero, suc, ◌+◌, ◌≤◌, ◌<◌}
use native.Mathlib.Omega.{arith}
use lib.Dec.{T}
use lib.ListN.{length, drop, get_or}
use lib.Ieee.{Float, lt, le, eq}
use lib.Ieee.Bits.{is_true}
use Rattle.float.proofs.Order.{as_T, lt→le, lt-le_trans, le_antisym, le_refl, le_from_not_lt, not_lt_from_le, no_nan_l, le_from_eq, ge_from_eq}
use Rattle.stops.specs.Stops.{pos_at}
use Rattle.float.specs.Number.{above_of, below_of}
use Rattle.weighed.specs.Points.{Site, site, beside_mark, lent_mark, sites_by, before, joined_with, own_of, inside, merged}
use Rattle.weighed.proofs.Merging.{Rises, Led, Each, Number}
use Rattle.weighed.proofs.Own.{NeverFalls, number_at}
use Rattle.within.specs.Shown.{to_lent}
use Rattle.word.proofs.Weighed.{point_in, after}
use Rattle.word.proofs.FewStops.{is_lent}

pick : (P : List Site → Type 0) (b : Bool) (x y : List Site) → (b ≡ true → P x) → (b ≡ false → P y) → P (cond b x y)
pick P true x y p q = p refl
pick P false x y p q = q refl

-- s is in a list; what comes before it there lies below it, or is a lent position no higher
abbrev LedLent : Site → List Site → Type 0
LedLent s [] = ⊥
LedLent s (x ∷ xs) = (x ≡ s) ⊎ ((T (le x.t s.t) × (T (lt x.t s.t) ⊎ (is_lent x ≡ true))) × LedLent s xs)

-- a lent position where t lies, by value
abbrev pub FoundLent : Float → List Site → Type 0
FoundLent t [] = ⊥
FoundLent t (x ∷ xs) = (T (eq x.t t) × (is_lent x ≡ true)) ⊎ FoundLent t xs

module _ (s : Site) (number : Number s) (lent : is_lent s ≡ true) where
  led_low : (x : Site) (xs : List Site) → Led s (x ∷ xs) → T (le x.t s.t)
  led_low x xs (inl e) = subst (λ (y : Site). T (le y.t s.t)) (sym e) (le_refl s.t number)
  led_low x xs (inr w) = w.0

  led_lents : (ys : List Site) → Each (λ y. is_lent y ≡ true) ys → Led s ys → LedLent s ys
  led_lents [] m w = w
  led_lents (y ∷ ys) m (inl e) = inl e
  led_lents (y ∷ ys) m (inr v) = inr ((v.0, inr m.0), led_lents ys m.1 v.1)

  before_lents : (x : Site) (f : List Site → List Site) → ((ys : List Site) → Each (λ y. is_lent y ≡ true) ys → Led s ys → LedLent s (f ys)) → (ys : List Site) → Each (λ y. is_lent y ≡ true) ys → Led s ys → LedLent s (before x f ys)
  unfolding before
  before_lents x f h [] m w = absurd w
  before_lents x f h (y ∷ ys) m w =
      pick (LedLent s) (lt x.t y.t) (x ∷ f (y ∷ ys)) (y ∷ before x f ys)
      (λ e. let k = lt-le_trans x.t y.t s.t (as_T _ e) (led_low y ys w) in inr ((lt→le x.t s.t k, inl k), h (y ∷ ys) m w))
      (λ e. elim w [ inl u ↦ inl u | inr v ↦ inr ((v.0, inr m.0), before_lents x f h ys m.1 v.1) ])

  joined_lents : (xs ys : List Site) → Each (λ y. is_lent y ≡ true) ys → Led s ys → LedLent s (joined_with xs ys)
  unfolding joined_with
  joined_lents [] ys m w = led_lents ys m w
  joined_lents (x ∷ xs) ys m w = before_lents x (joined_with xs) (joined_lents xs) ys m w

  -- ---- among the points
  head_low : (o : Site) (os : List Site) → LedLent s (o ∷ os) → T (le o.t s.t)
  head_low o os (inl e) = subst (λ (y : Site). T (le y.t s.t)) (sym e) (le_refl s.t number)
  head_low o os (inr w) = w.0.0

  module _ (max : Float) (under : T (lt s.t max)) where
    inner : (last : Float) → T (lt last s.t) → inside max last s.t ≡ true
    unfolding inside
    inner last h = simp (is_true (lt last s.t) h, is_true (lt s.t max) under)

    taken : (o : Site) (os rest : List Site) → LedLent s (o ∷ os) → (LedLent s os → T (lt o.t s.t) → FoundLent s.t rest) → FoundLent s.t (o ∷ rest)
    taken o os rest (inl e) k = inl (subst (λ (x : Site). T (eq x.t s.t) × (is_lent x ≡ true)) (sym e) (le_antisym s.t s.t (le_refl s.t number) (le_refl s.t number), lent))
    taken o os rest (inr v) k = go (lt o.t s.t) refl v.0.1
      where
        go : (b : Bool) → lt o.t s.t ≡ b → T (lt o.t s.t) ⊎ (is_lent o ≡ true) → FoundLent s.t (o ∷ rest)
        go true e w = inr (k v.1 (as_T _ e))
        go false e (inl h) = absurd (subst T e h)
        go false e (inr h) = inl (le_antisym o.t s.t v.0.0 (le_from_not_lt o.t s.t (no_nan_l o.t s.t v.0.0) number e), h)

    passed : (last : Float) (o : Site) (os : List Site) → T (lt last s.t) → LedLent s (o ∷ os) → inside max last o.t ≡ false → LedLent s os
    passed last o os h (inl e) d = absurd (true≢false (sym (subst (λ (x : Site). inside max last x.t ≡ true) (sym e) (inner last h)) ∙ d))
    passed last o os h (inr v) d = v.1

    lent_found : (n : ℕ) (last : Float) (ts : List Float) (os : List Site) → length ts + length os ≤ n → T (lt last s.t) → LedLent s os → FoundLent s.t (merged max n last ts os)
    unfolding merged
    lent_found zero last ts [] few h w = absurd w
    lent_found zero last ts (o ∷ os) few h w = absurd (omega arith)
    lent_found (suc n) last [] [] few h w = absurd w
    lent_found (suc n) last (t ∷ ts) [] few h w = absurd w
    lent_found (suc n) last [] (o ∷ os) few h w =
        pick (FoundLent s.t) (inside max last o.t) _ _
        (λ e. taken o os (merged max n o.t [] os) w (λ v k. lent_found n o.t [] os (omega arith) k v))
        (λ e. lent_found n last [] os (omega arith) h (passed last o os h w e))
    lent_found (suc n) last (t ∷ ts) (o ∷ os) few h w =
        pick (FoundLent s.t) (inside max last t) _ _
        (λ e. pick (FoundLent s.t) (inside max last o.t) _ _
        (λ d. pick (FoundLent s.t) (lt t o.t) _ _
        (λ c. inr (lent_found n t ts (o ∷ os) (omega arith) (lt-le_trans t o.t s.t (as_T _ c) (head_low o os w)) w))
        (λ c. taken o os (merged max n o.t (t ∷ ts) os) w (λ v k. lent_found n o.t (t ∷ ts) os (omega arith) k v)))
        (λ d. lent_found n last (t ∷ ts) os (omega arith) h (passed last o os h w d)))
        (λ e. lent_found n last ts (o ∷ os) (omega arith) h w)

-- ---- of a ramp's positions
each_lent : (ps : List Float) → Each (λ y. is_lent y ≡ true) (sites_by (λ p. p) lent_mark ps)
unfolding sites_by
each_lent [] = tt
each_lent (p ∷ ps) = (refl, each_lent ps)

led_positions : (ps : List Float) → NeverFalls (λ p. p) ps → (k : ℕ) → k < length ps → Led (site (pos_at ps k) lent_mark) (sites_by (λ p. p) lent_mark ps)
unfolding sites_by
led_positions [] w k l = absurd (omega arith)
led_positions (p ∷ ps) w zero l = inl refl
led_positions (p ∷ ps) w (suc k) l = inr (w 0 (suc k) (omega arith) l, led_positions ps (λ i j a b. w (suc i) (suc j) (omega arith) (omega arith)) k (omega arith))

pub position_found : (max : Float) (ps ts : List Float) (last : Float) → NeverFalls (λ p. p) ps → (k : ℕ) → k < length ps → T (lt last (pos_at ps k)) → T (lt (pos_at ps k) max)
    → FoundLent (pos_at ps k) (merged max (length ts + length (own_of ps)) last ts (own_of ps))
unfolding own_of
position_found max ps ts last rising k l lower upper =
    let s = site (pos_at ps k) lent_mark in
    let number = number_at ps k l rising in
    lent_found s number refl max upper (length ts + length (own_of ps)) last ts (own_of ps) (omega arith) lower
    (joined_lents s number refl (joined_with (sites_by below_of beside_mark ps) (sites_by above_of beside_mark ps)) (sites_by (λ p. p) lent_mark ps) (each_lent ps) (led_positions ps rising k l))

-- ---- in a list that rises it is one point alone, and the first lent one is no higher
not_both : (x t : Float) → T (lt x t) → T (eq x t) → ⊥
not_both x t h e = subst T (not_lt_from_le x t (ge_from_eq x t e)) h

module _ (max t : Float) where
  found_above : (a : Float) (ss : List Site) → Rises max a ss → FoundLent t ss → T (lt a t)
  found_above a [] w f = absurd f
  found_above a (s ∷ ss) w (inl f) = lt-le_trans a s.t t w.0 (le_from_eq s.t t f.0)
  found_above a (s ∷ ss) w (inr f) = lt-le_trans a s.t t w.0 (lt→le s.t t (found_above s.t ss w.1 f))

  pub found_drop : (a : Float) (ss : List Site) (r : ℕ) → Rises max a ss → r < length ss → T (lt (point_in max ss r) t) → FoundLent t ss → FoundLent t (drop (suc r) ss)
  found_drop a [] r w l h f = absurd f
  found_drop a (s ∷ ss) zero w l h (inl f) = absurd (not_both s.t t h f.0)
  found_drop a (s ∷ ss) zero w l h (inr f) = f
  found_drop a (s ∷ ss) (suc r) w l h (inl f) = absurd (not_both s.t t (lt-le_trans s.t (point_in max ss r) t (after max s.t ss r w.1) (lt→le _ t h)) f.0)
  found_drop a (s ∷ ss) (suc r) w l h (inr f) = found_drop s.t ss r w.1 (omega arith) h f

  pub found_alone : (a : Float) (ss : List Site) (r : ℕ) → Rises max a ss → r < length ss → T (eq (point_in max ss r) t) → FoundLent t ss → is_lent (get_or ss r (site max lent_mark)) ≡ true
  found_alone a [] r w l h f = absurd f
  found_alone a (s ∷ ss) zero w l h (inl f) = f.1
  found_alone a (s ∷ ss) zero w l h (inr f) = absurd (not_both s.t t (found_above s.t ss w.1 f) h)
  found_alone a (s ∷ ss) (suc r) w l h (inl f) = absurd (not_both s.t t (lt-le_trans s.t (point_in max ss r) t (after max s.t ss r w.1) (le_from_eq _ t h)) f.0)
  found_alone a (s ∷ ss) (suc r) w l h (inr f) = found_alone s.t ss r w.1 (omega arith) h f

-- the first lent point that is left, or max
pub record FirstLent (max : Float) (ss : List Site) : Type 0 where
  pub i : ℕ
  pub is : to_lent 1 ss ≡ suc i
  pub most : i ≤ length ss
  pub lent : i < length ss → is_lent (get_or ss i (site max lent_mark)) ≡ true
  pub least : (a t : Float) → Rises max a ss → FoundLent t ss → T (le (point_in max ss i) t)

pub first_lent : (max : Float) (ss : List Site) → FirstLent max ss
first_lent max [] = record { i = 0; is = unfold to_lent in refl; most = omega arith; lent = λ l. absurd (omega arith); least = λ a t w f. absurd f }
first_lent max (s ∷ ss) = go (is_lent s) refl (first_lent max ss)
  where
    go : (b : Bool) → is_lent s ≡ b → FirstLent max ss → FirstLent max (s ∷ ss)
    go true e r = record { i = 0; is = unfold to_lent in rw e; most = omega arith; lent = λ l. e; least = low }
      where
        low : (a t : Float) → Rises max a (s ∷ ss) → FoundLent t (s ∷ ss) → T (le s.t t)
        low a t w (inl f) = le_from_eq s.t t f.0
        low a t w (inr f) = lt→le s.t t (found_above max t s.t ss w.1 f)
    go false e r =
        let m = r.most in
        record { i = suc r.i; is = unfold to_lent in rw (e, r.is); most = omega arith; lent = λ l. r.lent (omega arith); least = low }
      where
        low : (a t : Float) → Rises max a (s ∷ ss) → FoundLent t (s ∷ ss) → T (le (point_in max ss r.i) t)
        low a t w (inl f) = absurd (true≢false (sym f.1 ∙ e))
        low a t w (inr f) = r.least s.t t w.1 f
