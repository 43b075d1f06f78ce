-- The check and the colour of GIMP segments, by the tests that the code makes. Assumes nothing.
use mathlib.Core.Path.{◌≡◌, refl, sym, ◌∙◌, ap, ap₂}
use mathlib.Core.Bool.{Bool, true, false, cond, ◌&&◌, ◌||◌, true≢false}
use mathlib.Core.List.{List}
use Prim.Native.Nat.{ℕ, suc, ◌+◌, ◌-◌, ◌*◌, ◌≤◌, ◌<◌}
use native.Mathlib.Numerals.{add-one}
use native.Mathlib.Omega.{arith}
use lib.Dec.{leb, eqb}
use lib.ListN.{length}
use lib.Ieee.{Float, le, lt}
use borrow.Author.Tests.{leb-true, eqb-true, eq-eqb, ne_eqb}
use Rattle.refusals.specs.Refusals.{misshapen, not_finite}
use Rattle.refusals.specs.Limits.{most_segments}
use Rattle.float.proofs.Flags.{both_l, both_r}
use Rattle.float.specs.F32.{◌⊖◌, f1, epsilon}
use Rattle.sine.specs.Wave.{wave_of}
use Rattle.curve.specs.Factor.{factor_of}
use Rattle.hsv.specs.Mix.{there_and_back, counter_clockwise, clockwise}
use Rattle.blend.specs.Blend.{linear, black}
use Rattle.blend.specs.Finite.{all_finite}
use Rattle.blend.specs.declared.Rgba.{Rgba}
use Rattle.stops.specs.Stops.{colour_at}
use Rattle.stops.specs.declared.Kind.{Kind}
use Rattle.stops.specs.declared.Checked.TheVariants.{Fine, Refused}
use Rattle.gradient.specs.Gimp.{segments, left_at, middle_at, right_at, blending_at, colouring_at, step_code, curved_code, sinusoidal_code, increasing_code, decreasing_code, falling_code, carried_at, all_carried, gimp_shaped, gimp_check, segment_found, along, linear_factor, increasing, decreasing, bent, unwaved, waved, is_hued, is_costly, uncurved, turned, curved_by, curved, costly, hued, blended, gimp_segment, segment_colour, off_domain, gimp_colour}
use Rattle.gradient.specs.declared.gimp.Segment.{Segment}

-- ---- the kinds, one by one
module _ (kind : Kind) (n i : ℕ) (ps : List Float) (ks : List ℕ) where
  carried_step : i < n → all_carried kind (n - i) i ps ks ≡ (carried_at kind ps ks i && all_carried kind (n - (i + 1)) (i + 1) ps ks)
  unfolding all_carried
  carried_step h = let e : n - i ≡ suc (n - (i + 1)) = omega arith in ap (λ (k : ℕ). all_carried kind k i ps ks) e ∙ simp add-one

  pub carried_not : i < n → carried_at kind ps ks i ≡ false → all_carried kind (n - i) i ps ks ≡ false
  carried_not h a = carried_step h ∙ simp a

  pub carried_next : i < n → carried_at kind ps ks i ≡ true → all_carried kind (n - i) i ps ks ≡ all_carried kind (n - (i + 1)) (i + 1) ps ks
  carried_next h a = carried_step h ∙ simp a

  pub carried_end : n ≤ i → all_carried kind (n - i) i ps ks ≡ true
  unfolding all_carried
  carried_end h = let e : n - i ≡ 0 = omega arith in ap (λ (k : ℕ). all_carried kind k i ps ks) e

pub carried_start : (kind : Kind) (n : ℕ) (ps : List Float) (ks : List ℕ) → all_carried kind (n - 0) 0 ps ks ≡ all_carried kind n 0 ps ks
carried_start kind n ps ks = let e : n - 0 ≡ n = omega arith in ap (λ (k : ℕ). all_carried kind k 0 ps ks) e

-- ---- the check
pub record Shape (n p c k : ℕ) : Type 0 where
  pub least : 1 ≤ n
  pub most : n ≤ most_segments
  pub positions : p ≡ 3 * n
  pub channels : c ≡ 8 * n
  pub codes : k ≡ 2 * n

pub shape : (n p c k : ℕ) → gimp_shaped n p c k ≡ true → Shape n p c k
unfolding gimp_shaped
shape n p c k h =
    let a = both_l (leb 1 n && leb n most_segments && eqb p (3 * n) && eqb c (8 * n)) (eqb k (2 * n)) h in
    let b = both_l (leb 1 n && leb n most_segments && eqb p (3 * n)) (eqb c (8 * n)) a in
    let d = both_l (leb 1 n && leb n most_segments) (eqb p (3 * n)) b in
    record {
      least = leb-true 1 n (both_l (leb 1 n) (leb n most_segments) d);
      most = leb-true n most_segments (both_r (leb 1 n) (leb n most_segments) d);
      positions = eqb-true p (3 * n) (both_r (leb 1 n && leb n most_segments) (eqb p (3 * n)) b);
      channels = eqb-true c (8 * n) (both_r (leb 1 n && leb n most_segments && eqb p (3 * n)) (eqb c (8 * n)) a);
      codes = eqb-true k (2 * n) (both_r (leb 1 n && leb n most_segments && eqb p (3 * n) && eqb c (8 * n)) (eqb k (2 * n)) h);
    }

module _ (kind : Kind) (ps cs : List Float) (ks : List ℕ) where
  abbrev fits : Bool
  fits = gimp_shaped (segments ps) (length ps) (length cs) (length ks)

  abbrev kinds : Bool
  kinds = all_carried kind (segments ps) 0 ps ks

  -- what passes has the lengths that agree
  pub fine_shape : gimp_check kind ps cs ks ≡ Fine → Shape (segments ps) (length ps) (length cs) (length ks)
  unfolding gimp_check
  fine_shape h = shape (segments ps) (length ps) (length cs) (length ks) (go fits h)
    where
      go : (b : Bool) → cond (b && kinds) (cond (all_finite ps && all_finite cs) Fine (Refused not_finite)) (Refused misshapen) ≡ Fine → b ≡ true
      go true e = refl
      go false e = let z : ◌≡◌ {A = ℕ} 0 1 = cc in absurd (omega arith)

-- ---- the colour
module _ (k : ℕ) (f : Float) {z : Float} where
  pub bent-increasing : k ≡ increasing_code → z ≡ increasing f → z ≡ bent k f
  unfolding bent
  bent-increasing a e = e ∙ simp (eq-eqb k increasing_code a)

  pub bent-decreasing : (k ≡ increasing_code → ⊥) → k ≡ decreasing_code → z ≡ decreasing f → z ≡ bent k f
  unfolding bent
  bent-decreasing a b e = e ∙ simp (ne_eqb k increasing_code a, eq-eqb k decreasing_code b)

pub bent_not : (k : ℕ) (f : Float) → (k ≡ increasing_code → ⊥) → (k ≡ decreasing_code → ⊥) → f ≡ bent k f
unfolding bent
bent_not k f a b = simp (ne_eqb k increasing_code a, ne_eqb k decreasing_code b)

either_one : (h c : Bool) → (h || c) ≡ true → (x y w : Rgba) → cond h x y ≡ cond h x (cond c y w)
either_one true c e x y w = refl
either_one false true e x y w = refl
either_one false false e x y w = absurd (true≢false (sym e))

neither_one : (h c : Bool) → (h || c) ≡ false → (x y w : Rgba) → w ≡ cond h x (cond c y w)
neither_one true c e x y w = absurd (true≢false e)
neither_one false true e x y w = absurd (true≢false e)
neither_one false false e x y w = refl

module _ (g : Segment) (pivot place : Float) where
  pub step_right : g.blending ≡ step_code → le pivot place ≡ true → g.rcolor ≡ unwaved g pivot place
  unfolding unwaved
  step_right a b = simp (eq-eqb g.blending step_code a, b)

  pub step_left : g.blending ≡ step_code → le pivot place ≡ false → g.lcolor ≡ unwaved g pivot place
  unfolding unwaved
  step_left a b = simp (eq-eqb g.blending step_code a, b)

  pub mixed_at : (g.blending ≡ step_code → ⊥) → {x y : Float} {z : Rgba} → x ≡ linear_factor pivot place → y ≡ bent g.blending x → z ≡ linear g.lcolor g.rcolor y → z ≡ unwaved g pivot place
  unfolding unwaved
  mixed_at a e h z = z ∙ ap (λ (w : Float). linear g.lcolor g.rcolor w) (h ∙ ap (λ (w : Float). bent g.blending w) e) ∙ simp (ne_eqb g.blending step_code a)

  pub waved_at : {x y : Float} {z : Rgba} → x ≡ linear_factor pivot place → y ≡ wave_of x → z ≡ linear g.lcolor g.rcolor y → z ≡ waved g pivot place
  unfolding waved
  waved_at e h z = z ∙ ap (λ (w : Float). linear g.lcolor g.rcolor w) (h ∙ ap wave_of e)

  -- by hue
  pub hued_right : {z : Rgba} → g.blending ≡ step_code → le pivot place ≡ true → z ≡ there_and_back g.rcolor → z ≡ hued g pivot place
  unfolding hued
  hued_right a b z = z ∙ simp (eq-eqb g.blending step_code a, b)

  pub hued_left : {z : Rgba} → g.blending ≡ step_code → le pivot place ≡ false → z ≡ there_and_back g.lcolor → z ≡ hued g pivot place
  unfolding hued
  hued_left a b z = z ∙ simp (eq-eqb g.blending step_code a, b)

  pub hued_curve : {z : Rgba} → (g.blending ≡ step_code → ⊥) → g.blending ≡ curved_code → z ≡ curved_by there_and_back (turned g.colouring g.lcolor g.rcolor) g pivot place → z ≡ hued g pivot place
  unfolding hued
  hued_curve a b z = z ∙ simp (ne_eqb g.blending step_code a, eq-eqb g.blending curved_code b)

  pub hued_at : (g.blending ≡ step_code → ⊥) → (g.blending ≡ curved_code → ⊥) → {x : Float} {z : Rgba} → x ≡ uncurved g.blending pivot place → z ≡ turned g.colouring g.lcolor g.rcolor x → z ≡ hued g pivot place
  unfolding hued
  hued_at a b e z = z ∙ ap (turned g.colouring g.lcolor g.rcolor) e ∙ simp (ne_eqb g.blending step_code a, ne_eqb g.blending curved_code b)

  -- along the curve
  module _ (shown : Rgba → Rgba) (between : Float → Rgba) {z : Rgba} where
    pub curve_right : lt pivot epsilon ≡ true → z ≡ shown g.rcolor → z ≡ curved_by shown between g pivot place
    unfolding curved_by
    curve_right a e = e ∙ simp a

    pub curve_left : lt pivot epsilon ≡ false → lt (f1 ⊖ pivot) epsilon ≡ true → z ≡ shown g.lcolor → z ≡ curved_by shown between g pivot place
    unfolding curved_by
    curve_left a b e = e ∙ simp (a, b)

    pub curve_at : {x : Float} → lt pivot epsilon ≡ false → lt (f1 ⊖ pivot) epsilon ≡ false → x ≡ factor_of place pivot → z ≡ between x → z ≡ curved_by shown between g pivot place
    unfolding curved_by
    curve_at a b h e = e ∙ ap between h ∙ simp (a, b)

  -- what is costly, by the colouring
  module _ {b : Bool} {z : Rgba} (a : b ≡ is_hued g.colouring) where
    pub costly-hued : b ≡ true → z ≡ hued g pivot place → z ≡ costly g pivot place
    unfolding costly
    costly-hued e z = z ∙ simp (sym a ∙ e)

    pub costly-curved : b ≡ false → z ≡ curved g pivot place → z ≡ costly g pivot place
    unfolding costly
    costly-curved e z = z ∙ simp (sym a ∙ e)

  -- the one rule
  module _ {b : Bool} {z : Rgba} (a : b ≡ is_costly g.blending g.colouring) where
    pub by_cost : b ≡ true → z ≡ costly g pivot place → z ≡ blended g pivot place
    unfolding costly blended
    by_cost e z = z ∙ either_one (is_hued g.colouring) (eqb g.blending curved_code) (sym a ∙ e) _ _ _

    plain : b ≡ false → z ≡ cond (eqb g.blending sinusoidal_code) (waved g pivot place) (unwaved g pivot place) → z ≡ blended g pivot place
    unfolding blended
    plain e q = q ∙ neither_one (is_hued g.colouring) (eqb g.blending curved_code) (sym a ∙ e) _ _ _

    pub by_wave : b ≡ false → g.blending ≡ sinusoidal_code → z ≡ waved g pivot place → z ≡ blended g pivot place
    by_wave e d z = plain e (z ∙ simp (eq-eqb g.blending sinusoidal_code d))

    pub by_rest : b ≡ false → (g.blending ≡ sinusoidal_code → ⊥) → z ≡ unwaved g pivot place → z ≡ blended g pivot place
    by_rest e d z = plain e (z ∙ simp (ne_eqb g.blending sinusoidal_code d))

-- ---- the factor and the turn of a segment coloured by hue
module _ (k : ℕ) (pivot place : Float) {x y : Float} (e : x ≡ linear_factor pivot place) where
  pub factor_wave : k ≡ sinusoidal_code → y ≡ wave_of x → y ≡ uncurved k pivot place
  unfolding uncurved
  factor_wave a h = h ∙ ap wave_of e ∙ simp (eq-eqb k sinusoidal_code a)

  pub factor_bent : (k ≡ sinusoidal_code → ⊥) → y ≡ bent k x → y ≡ uncurved k pivot place
  unfolding uncurved
  factor_bent a h = h ∙ ap (bent k) e ∙ simp (ne_eqb k sinusoidal_code a)

module _ (k : ℕ) (p q : Rgba) (f : Float) {z : Rgba} where
  pub turned_down : k ≡ falling_code → z ≡ clockwise p q f → z ≡ turned k p q f
  unfolding turned
  turned_down a e = e ∙ simp (eq-eqb k falling_code a)

  pub turned_up : (k ≡ falling_code → ⊥) → z ≡ counter_clockwise p q f → z ≡ turned k p q f
  unfolding turned
  turned_up a e = e ∙ simp (ne_eqb k falling_code a)

pub segment_coloured : (g : Segment) (t : Float) {pivot place : Float} {z : Rgba} → pivot ≡ along g.left g.right g.middle → place ≡ along g.left g.right t → z ≡ blended g pivot place → z ≡ segment_colour g t
unfolding segment_colour
segment_coloured g t a b z = z ∙ ap₂ (blended g) a b

-- a segment read part by part
pub segment_is : (ps cs : List Float) (ks : List ℕ) (i : ℕ) {l m r : Float} {p q : Rgba} {b k : ℕ}
    → l ≡ left_at ps i → m ≡ middle_at ps i → r ≡ right_at ps i → p ≡ colour_at cs (2 * i) → q ≡ colour_at cs (2 * i + 1) → b ≡ blending_at ks i → k ≡ colouring_at ks i
    → ◌≡◌ {A = Segment} (record { left = l; middle = m; right = r; lcolor = p; rcolor = q; blending = b; colouring = k }) (gimp_segment ps cs ks i)
unfolding gimp_segment
segment_is ps cs ks i l m r p q b k = cc

pub inside : (ps cs : List Float) (ks : List ℕ) (t : Float) {o : Bool} {i : ℕ} {g : Segment} {z : Rgba} → o ≡ off_domain t → o ≡ false → i ≡ segment_found ps t → g ≡ gimp_segment ps cs ks i → z ≡ segment_colour g t → z ≡ gimp_colour ps cs ks t
unfolding gimp_colour
inside ps cs ks t o f e g z = z ∙ ap (λ (x : Segment). segment_colour x t) (g ∙ ap (gimp_segment ps cs ks) e) ∙ simp (sym o ∙ f)

pub beyond : (ps cs : List Float) (ks : List ℕ) (t : Float) {o : Bool} → o ≡ off_domain t → o ≡ true → black ≡ gimp_colour ps cs ks t
unfolding gimp_colour
beyond ps cs ks t o h = simp (sym o ∙ h)
