-- What the functions cite: calls put together. Assumes nothing.
use mathlib.Core.Path.{◌≡◌, ◌∙◌, ap, ap₂}
use mathlib.Core.Bool.{Bool, true, false, cond}
use lib.Ieee.{Float, lt, eq}
use Rattle.float.specs.F32.{◌⊕◌, ◌⊖◌, ◌⊗◌, ◌⊘◌, f0, f2}
use Rattle.float.specs.Number.{clamp_of}
use Rattle.blend.specs.declared.Rgba.{Rgba}
use Rattle.hsv.specs.declared.Hsva.{Hsva}
use Rattle.hsv.specs.There.{sixth, larger, smaller, value_of, least_of, sixths_of, hsva_by, hsva_of}
use Rattle.hsv.specs.Circle.{turn, way}
use Rattle.hsv.specs.Back.{angle_of, into_six, lightness_of, saturation_of, upper_of, channel_at, channel_of, channels_around, from_lightness, lightened, rgba_of}
use Rattle.hsv.specs.Mix.{mixed_at, mixed_by}

-- a test that fails, and what stands after it
other : {A : Type 0} {b : Bool} (x : A) {y z : A} → b ≡ false → z ≡ y → z ≡ cond b x y
other x e p = p ∙ simp e

-- ---- round the circle
abbrev back : Float → Float → Float
back end h = cond (lt end h) (h ⊖ turn) h

taken : (end h : Float) → lt end h ≡ true → h ⊖ turn ≡ back end h
taken end h e = simp e

kept : (end h : Float) → lt end h ≡ false → h ≡ back end h
kept end h e = simp e

module _ (from to end t : Float) where
  through : {z : Float} → lt from to ≡ false → z ≡ back end (from ⊕ (turn ⊖ (from ⊖ to)) ⊗ t) → z ≡ way from to end t
  unfolding way
  through e p = other (from ⊕ (to ⊖ from) ⊗ t) e p

  pub way_taken : lt from to ≡ false → lt end (from ⊕ (turn ⊖ (from ⊖ to)) ⊗ t) ≡ true → from ⊕ (turn ⊖ (from ⊖ to)) ⊗ t ⊖ turn ≡ way from to end t
  way_taken e f = through e (taken end _ f)

  pub way_kept : lt from to ≡ false → lt end (from ⊕ (turn ⊖ (from ⊖ to)) ⊗ t) ≡ false → from ⊕ (turn ⊖ (from ⊖ to)) ⊗ t ≡ way from to end t
  way_kept e f = through e (kept end _ f)

-- ---- there
grey_by : (c : Rgba) (v d : Float) → eq d f0 ≡ true → ◌≡◌ {A = Hsva} (record { h = f0; s = f0; v = v; a = c.a }) (hsva_by c v d)
unfolding hsva_by
grey_by c v d e = simp e

hued_by : (c : Rgba) (v d : Float) → eq d f0 ≡ false → {k : Float} → k ≡ sixths_of c.r c.g c.b v d → ◌≡◌ {A = Hsva} (record { h = k ⊗ sixth; s = d ⊘ v; v = v; a = c.a }) (hsva_by c v d)
unfolding hsva_by
hued_by c v d e k = simp (k, e)

module _ (c : Rgba) {x v y l : Float} (p : x ≡ larger c.r c.g) (q : v ≡ larger x c.b) (s : y ≡ smaller c.r c.g) (w : l ≡ smaller y c.b) where
  value-is : v ≡ value_of c
  value-is = q ∙ ap (λ (z : Float). larger z c.b) p

  range_is : v ⊖ l ≡ value_of c ⊖ least_of c
  range_is = ap₂ ◌⊖◌ value-is (w ∙ ap (λ (z : Float). smaller z c.b) s)

  by_these : hsva_by c v (v ⊖ l) ≡ hsva_of c
  unfolding hsva_of
  by_these = ap₂ (hsva_by c) value-is range_is

  pub grey : eq (v ⊖ l) f0 ≡ true → ◌≡◌ {A = Hsva} (record { h = f0; s = f0; v = v; a = c.a }) (hsva_of c)
  grey e = grey_by c v (v ⊖ l) e ∙ by_these

  pub hued : eq (v ⊖ l) f0 ≡ false → {k : Float} → k ≡ sixths_of c.r c.g c.b v (v ⊖ l) → ◌≡◌ {A = Hsva} (record { h = k ⊗ sixth; s = (v ⊖ l) ⊘ v; v = v; a = c.a }) (hsva_of c)
  hued e k = hued_by c v (v ⊖ l) e k ∙ by_these

-- ---- back
pub channel_is : (least most x : Float) {y z w : Float} → y ≡ into_six x → z ≡ channel_at least most y → w ≡ clamp_of z → w ≡ channel_of least most x
unfolding channel_of
channel_is least most x p q e = e ∙ ap clamp_of (q ∙ ap (channel_at least most) p)

module _ (h s l a : Float) where
  pub light_grey : eq s f0 ≡ true → ◌≡◌ {A = Rgba} (record { r = l; g = l; b = l; a = a }) (from_lightness h s l a)
  unfolding from_lightness
  light_grey e = simp e

  pub light_hued : eq s f0 ≡ false → {m x y z : Float} → m ≡ upper_of s l → x ≡ channel_of (f2 ⊗ l ⊖ m) m (h ⊘ sixth ⊕ f2) → y ≡ channel_of (f2 ⊗ l ⊖ m) m (h ⊘ sixth) → z ≡ channel_of (f2 ⊗ l ⊖ m) m (h ⊘ sixth ⊖ f2) → ◌≡◌ {A = Rgba} (record { r = x; g = y; b = z; a = a }) (from_lightness h s l a)
  unfolding from_lightness channels_around
  light_hued e m x y z = simp (x, y, z, m, e)

pub rgba_is : (c : Hsva) {s v l h k a : Float} {r : Rgba} → s ≡ clamp_of c.s → v ≡ clamp_of c.v → l ≡ lightness_of s v → h ≡ angle_of c.h → k ≡ saturation_of s v l → a ≡ clamp_of c.a → r ≡ from_lightness h k l a → r ≡ rgba_of c
unfolding rgba_of lightened
rgba_is c s v l h k a r = r ∙ simp (k, l, s, v, h, a)

-- ---- mixed
pub mixed_by_lem : (way : Float → Float → Float → Float) (t : Float) {x y p q : Hsva} {hue : Float} {r : Rgba} → p ≡ x → q ≡ y → hue ≡ way p.h q.h t → r ≡ mixed_at hue p q t → r ≡ mixed_by way x y t
mixed_by_lem way t {p = p} {q = q} d f e r = r ∙ ap (λ (z : Float). mixed_at z p q t) e ∙ ap₂ (λ (u w : Hsva). mixed_by way u w t) d f
