-- The mirror is the published clockwise: the colour is the same, bit for bit, since a hue of either zero gives one colour. Assumes nothing.
use mathlib.Core.Path.{◌≡◌, refl, sym, ◌∙◌, ap, ap₂, subst}
use mathlib.Core.Bool.{Bool, true, false, cond}
use mathlib.Core.Logic.{◌⊎◌, inl, inr}
use Prim.Native.Nat.{ℕ, ◌+◌, ◌*◌}
use native.Mathlib.Omega.{arith}
use native.Mathlib.Nat.{zero-mul}
use lib.Dec.{ltb}
use lib.Ieee.{Float, nan, inf, fin, up, down, round, add, sub, div, rem, neg, lt, of_bits}
use borrow.Author.Tests.{le-ltb}
use Rattle.float.specs.F32.{◌⊕◌, ◌⊖◌, ◌⊗◌, ◌⊘◌, f2}
use Rattle.blend.specs.declared.Rgba.{Rgba}
use Rattle.hsv.specs.declared.Hsva.{Hsva}
use Rattle.blend.specs.Blend.{linear1}
use Rattle.hsv.specs.There.{sixth, hsva_of}
use Rattle.hsv.specs.Circle.{turn, way, down_hue, source_hue}
use Rattle.hsv.specs.Back.{angle_of, into_six, channel_of, channels_around, upper_of, from_lightness, lightened, rgba_of}
use Rattle.hsv.specs.Mix.{mixed_at, mixed_by, clockwise}
use Rattle.hsv.proofs.SignedSums.{neg-neg, lt-neg, o, Mirror, add_mirror, sub_mirror}

-- ---- the way, mirrored

-- one hue, or the two zeros
abbrev pub Alike : Float → Float → Type 0
Alike x y = (x ≡ y) ⊎ ((x ≡ neg o) × (y ≡ o))

alike : {x y : Float} → Mirror y x → Alike (neg x) y
alike (inl e) = inl (sym e)
alike (inr e) = inr (ap neg e.1, e.0)

-- negated after the sum, or before
past : (x p : Float) → Mirror (x ⊖ p) (neg x ⊕ p)
unfolding sub
past x p = subst (λ (z : Float). Mirror (z ⊕ neg p) (neg x ⊕ p)) (neg-neg x) (add_mirror (neg x) p)

taken : (h : Float) → Alike (neg (h ⊖ turn)) (neg h ⊕ turn)
unfolding sub
taken h = alike (subst (λ (z : Float). Mirror (neg h ⊕ z) (h ⊕ neg turn)) (neg-neg turn) (add_mirror h (neg turn)))

-- below either zero
below_none : (a b : ℕ) → b ≡ 0 → ltb b a ≡ ltb 0 (a + b)
below_none a b z = let e : a ≡ a + b = omega arith in ap₂ ltb z e

not-below : (a b : ℕ) → b ≡ 0 → false ≡ ltb a b
not-below a b z = sym (le-ltb a b (omega arith))

lt-zero : (x : Float) → lt x (neg o) ≡ lt x o
unfolding lt neg
lt-zero nan = refl
lt-zero (inf s) = refl
lt-zero (fin true m e) = below_none (m * up e * 1) (0 * down e) (zero-mul (down e))
lt-zero (fin false m e) = not-below (m * up e * 1) (0 * down e) (zero-mul (down e))

-- taken back, or not
backed : (h g : Float) → Mirror h g → Alike (neg (cond (lt o g) (g ⊖ turn) g)) (cond (lt h o) (h ⊕ turn) h)
backed h g (inl e) = subst (λ (z : Float). Alike (neg (cond (lt o g) (g ⊖ turn) g)) (cond (lt z o) (z ⊕ turn) z)) (sym e) (go (lt o g) (sym (lt-zero (neg g)) ∙ lt-neg g o))
  where
    go : (b : Bool) → lt (neg g) o ≡ b → Alike (neg (cond b (g ⊖ turn) g)) (cond (lt (neg g) o) (neg g ⊕ turn) (neg g))
    go true f = subst (λ (c : Bool). Alike (neg (g ⊖ turn)) (cond c (neg g ⊕ turn) (neg g))) (sym f) (taken g)
    go false f = subst (λ (c : Bool). Alike (neg g) (cond c (neg g ⊕ turn) (neg g))) (sym f) (inl refl)
backed h g (inr e) = subst (λ (z : Float). Alike (neg (cond (lt o g) (g ⊖ turn) g)) (cond (lt z o) (z ⊕ turn) z)) (sym e.0) (subst (λ (z : Float). Alike (neg (cond (lt o z) (z ⊖ turn) z)) (cond (lt o o) (o ⊕ turn) o)) (sym e.1) both)
  where
    both : Alike (neg (cond (lt o o) (o ⊖ turn) o)) (cond (lt o o) (o ⊕ turn) o)
    both = unfold lt in inr (refl, refl)

-- by the test, and by how far the two hues lie apart, one way and the other
abbrev mirrored : Float → Float → Bool → Float → Float → Float
mirrored h1 t b d k = let g = neg h1 ⊕ (turn ⊖ k) ⊗ t in neg (cond b (neg h1 ⊕ d ⊗ t) (cond (lt o g) (g ⊖ turn) g))

abbrev published : Float → Float → Bool → Float → Float → Float
published h1 t b d k = let h = h1 ⊖ (turn ⊖ k) ⊗ t in cond b (h1 ⊖ d ⊗ t) (cond (lt h o) (h ⊕ turn) h)

same_way : (h1 t : Float) (b : Bool) (d k : Float) → Alike (mirrored h1 t b d k) (published h1 t b d k)
same_way h1 t true d k = alike (past h1 (d ⊗ t))
same_way h1 t false d k = backed (h1 ⊖ (turn ⊖ k) ⊗ t) (neg h1 ⊕ (turn ⊖ k) ⊗ t) (past h1 ((turn ⊖ k) ⊗ t))

is_mirrored : (h1 h2 t : Float) → down_hue h1 h2 t ≡ mirrored h1 t (lt (neg h1) (neg h2)) (neg h2 ⊖ neg h1) (neg h1 ⊖ neg h2)
unfolding down_hue way of_bits
is_mirrored h1 h2 t = refl

is_published : (h1 h2 t : Float) → source_hue h1 h2 t ≡ published h1 t (lt h2 h1) (h1 ⊖ h2) (h2 ⊖ h1)
unfolding source_hue of_bits
is_published h1 h2 t = refl

-- the clockwise hue is the published one, but for the sign of zero
pub falling_alike : (h1 h2 t : Float) → Alike (down_hue h1 h2 t) (source_hue h1 h2 t)
falling_alike h1 h2 t =
    subst (λ (x : Float). Alike x (source_hue h1 h2 t)) (sym (is_mirrored h1 h2 t ∙ simp (lt-neg h1 h2, sub_mirror h2 h1, sub_mirror h1 h2)))
    (subst (Alike (mirrored h1 t (lt h2 h1) (h1 ⊖ h2) (h2 ⊖ h1))) (sym (is_published h1 h2 t)) (same_way h1 t (lt h2 h1) (h1 ⊖ h2) (h2 ⊖ h1)))

-- ---- a hue of either zero gives one colour
angle_minus : angle_of (neg o) ≡ neg o
unfolding angle_of rem of_bits neg lt round
angle_minus = refl

angle_plus : angle_of o ≡ o
unfolding angle_of rem of_bits lt round
angle_plus = refl

ahead : neg o ⊘ sixth ⊕ f2 ≡ o ⊘ sixth ⊕ f2
unfolding add div neg of_bits round
ahead = refl

behind : neg o ⊘ sixth ⊖ f2 ≡ o ⊘ sixth ⊖ f2
unfolding add sub div neg of_bits round
behind = refl

here : into_six (neg o ⊘ sixth) ≡ into_six (o ⊘ sixth)
unfolding into_six add div rem neg of_bits round
here = refl

around : (least most a : Float) → channels_around least most (neg o ⊘ sixth) a ≡ channels_around least most (o ⊘ sixth) a
unfolding channels_around channel_of
around least most a = simp (ahead, behind, here)

light : (s l a : Float) → from_lightness (neg o) s l a ≡ from_lightness o s l a
unfolding from_lightness
light s l a = simp (around (f2 ⊗ l ⊖ upper_of s l) (upper_of s l) a)

zero_hue : (s v a : Float) → rgba_of (record { h = neg o; s = s; v = v; a = a }) ≡ rgba_of (record { h = o; s = s; v = v; a = a })
unfolding rgba_of lightened
zero_hue s v a = simp (angle_minus, angle_plus) (light _ _ _)

hue_alike : (x y : Float) (p q : Hsva) (t : Float) → Alike x y → mixed_at x p q t ≡ mixed_at y p q t
unfolding mixed_at
hue_alike x y p q t (inl e) = ap (λ (z : Float). rgba_of (record { h = z; s = linear1 p.s q.s t; v = linear1 p.v q.v t; a = linear1 p.a q.a t })) e
hue_alike x y p q t (inr e) =
    let at : Float → Rgba = λ z. rgba_of (record { h = z; s = linear1 p.s q.s t; v = linear1 p.v q.v t; a = linear1 p.a q.a t }) in
    ap at e.0 ∙ zero_hue _ _ _ ∙ ap at (sym e.1)

-- any two colours mixed clockwise are what the published steps give, over the same conversions
pub clockwise_is_published : (from to : Rgba) (t : Float) → clockwise from to t ≡ mixed_by source_hue (hsva_of from) (hsva_of to) t
unfolding clockwise
clockwise_is_published from to t = hue_alike _ _ _ _ t (falling_alike (hsva_of from).h (hsva_of to).h t)
