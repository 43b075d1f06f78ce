-- The colour of a ramp of stops is known by the value of t: -0 and +0, the only f32 that are equal and unlike in bits, have one colour. Assumes nothing.
-- Every kind reads t by its place, which is found by comparisons, and by t - p for a stop p that lies below it: so p is no zero where t is one.
use mathlib.Core.Path.{◌≡◌, refl, sym, ap, ◌∙◌, subst}
use mathlib.Core.Bool.{Bool, beq, true, false, not, ◌&&◌, ◌||◌, true≢false}
use mathlib.Core.List.{List, [], ◌∷◌}
use mathlib.Core.Logic.{◌⊎◌, inl, inr}
use Prim.Native.Nat.{ℕ, zero, suc, ◌+◌, ◌-◌, ◌*◌, ◌≤◌, ◌<◌}
use native.Mathlib.Decide.{dec_le}
use native.Mathlib.Nat.{lt_of_not-le, lt_irrefl, mul-pos, zero-lt-suc}
use native.Mathlib.Omega.{arith}
use borrow.Author.Tests.{lt-ltb, eq-eqb}
use lib.Dec.{T, ltb, eqb, eqb→eq}
use lib.IntN.{ℤ, pos}
use lib.ListN.{length}
use lib.Ieee.{Float, nan, inf, fin, binary32, up, down, fits, of_bits, add, sub, sum, neg, below, le, lt, eq}
use lib.Ieee.Fits.{up_pos, down_pos, and_l}
use Rattle.float.specs.F32.{◌⊖◌}
use Rattle.float.specs.Units.{Sized}
use Rattle.float.proofs.Order.{le_trans, le_from_eq, ge_from_eq, no_nan_l, no_nan_r}
use Rattle.float.proofs.Units.{zero_units, same_units}
use Rattle.float.proofs.UnitsOrder.{same_value}
use Rattle.blend.specs.Pair.{linear_pair, smooth_pair, sharp_pair, basis_pair, catmull_pair}
use Rattle.stops.specs.Lent.{Ramp}
use Rattle.stops.specs.Stops.{pos_at, stop_at}
use Rattle.stops.specs.Place.{first_at, place_of}
use Rattle.stops.specs.Pair.{pair_of, between, colour_in}
use Rattle.stops.specs.declared.Kind.{Kind}
use Rattle.stops.specs.declared.Kind.TheVariants.{Linear, Smoothstep, Sharp, Basis, CatmullRom, Gimp, GimpSaved}
use Rattle.stops.proofs.Choice.{before_first, place_first, place_last, place_between}
use Rattle.gradient.specs.Ramp.{is_gimp, colour_of}

-- ---- two f32 of one value are one f32, or zeros
-- a zero of either sign
abbrev pub Zero : Float → Type 0
Zero x = (s : Bool) × (x ≡ fin s 0 (pos 0))

zero_known : (s : Bool) (e : ℤ) → T (fits binary32 (fin s zero e)) → fin s zero e ≡ fin s 0 (pos 0)
zero_known s e t = same_units {a = 0} (record { one = t; is = (refl, zero_units e) }) (nothing s) refl
  where
    nothing : (s : Bool) → Sized (fin s 0 (pos 0)) s 0
    nothing s = unfold fits in record { one = tt; is = (refl, refl) }

not_none : (m a b : ℕ) → 0 < a → 0 < b → 0 ≡ suc m * a * b → ⊥
not_none m a b h k e = lt_irrefl 0 (subst (λ (x : ℕ). 0 < x) (sym e) (mul-pos (mul-pos (zero-lt-suc m) h) k))

abbrev significand : Float → ℕ
significand nan = 0
significand (inf s) = 0
significand (fin s m e) = m

no_zero : (s : Bool) (m : ℕ) (e : ℤ) → fin s (suc m) e ≡ of_bits binary32 2147483648 → ⊥
unfolding of_bits
no_zero s m e h = let k : suc m ≡ 0 = ap significand h in omega arith

pub alike : (x y : Float) → T (fits binary32 x) → T (fits binary32 y) → T (eq x y) → (x ≡ y) ⊎ (Zero x × Zero y)
unfolding eq
alike nan y t u h = absurd h
alike (inf s) nan t u h = absurd h
alike (inf true) (inf true) t u h = inl refl
alike (inf true) (inf false) t u h = absurd h
alike (inf false) (inf true) t u h = absurd h
alike (inf false) (inf false) t u h = inl refl
alike (inf s) (fin r n d) t u h = absurd h
alike (fin s m e) nan t u h = absurd h
alike (fin s m e) (inf r) t u h = absurd h
alike (fin s zero e) (fin r zero d) t u h = inr ((s, zero_known s e t), (r, zero_known r d u))
alike (fin s zero e) (fin r (suc n) d) t u h =
    let a = 0 * up e * down d in
    let b = suc n * up d * down e in
    let z : 0 ≡ a = omega arith in
    absurd (not_none n (up d) (down e) (up_pos d) (down_pos e) (z ∙ eqb→eq a b (and_l (eqb a b) _ h)))
alike (fin s (suc m) e) (fin r zero d) t u h =
    let a = suc m * up e * down d in
    let b = 0 * up d * down e in
    let z : b ≡ 0 = omega arith in
    absurd (not_none m (up e) (down d) (up_pos e) (down_pos d) (sym (eqb→eq a b (and_l (eqb a b) _ h) ∙ z)))
alike (fin s (suc m) e) (fin r (suc n) d) t u h = inl (same_value (fin s (suc m) e) (fin r (suc n) d) t u (no_zero s m e) (no_zero r n d) h)

-- ---- a zero less what does not lie above it
sum-zero : (a b c : ℕ) (t : Bool) → a ≡ 0 → 0 < b → sum binary32 true a t b c ≡ sum binary32 false a t b c
unfolding sum
sum-zero a b c true e h = let l : ltb a b ≡ true = lt-ltb a b (omega arith) in let k : a + b ≡ b - a = omega arith in rw (l, k)
sum-zero a b c false e h = let l : ltb a b ≡ true = lt-ltb a b (omega arith) in let k : a + b ≡ b - a = omega arith in rw (l, k)

last_true : (x y : Bool) → (x || (true && (y || true))) ≡ true
last_true true y = refl
last_true false true = refl
last_true false false = refl

level_true : (x y : Bool) (a b : ℕ) → a ≡ 0 → b ≤ 0 → (x || (eqb a b && (y || eqb a 0))) ≡ true
level_true x y a b e l = rw (eq-eqb a b (omega arith), eq-eqb a 0 e) (last_true x y)

zero_less : (s : Bool) (p : Float) → le (fin s 0 (pos 0)) p ≡ false → fin s 0 (pos 0) ⊖ p ≡ fin false 0 (pos 0) ⊖ p
unfolding sub add neg le lt eq
zero_less false p h = refl
zero_less true nan h = refl
zero_less true (inf t) h = refl
zero_less true (fin t n d) h = go (dec_le b 0)
  where
    a : ℕ
    a = 0 * 1 * down d

    b : ℕ
    b = n * up d * 1

    none : a ≡ 0
    none = omega arith

    go : Dec (b ≤ 0) → sum binary32 true a (not t) b (1 * down d) ≡ sum binary32 false a (not t) b (1 * down d)
    go (yes l) = absurd (true≢false (sym (level_true (below true a t b) (beq true t) a b none l) ∙ h))
    go (no f) = sum-zero a b (1 * down d) (not t) none (lt_of_not-le f)

pub same_less : (x y p : Float) → (x ≡ y) ⊎ (Zero x × Zero y) → le x p ≡ false → le y p ≡ false → x ⊖ p ≡ y ⊖ p
same_less x y p (inl e) h k = ap (λ (t : Float). t ⊖ p) e
same_less x y p (inr w) h k =
    let a = w.0 in
    let b = w.1 in
    ap (λ (t : Float). t ⊖ p) a.1 ∙ zero_less a.0 p (rw a.1 at h) ∙ sym (zero_less b.0 p (rw b.1 at k)) ∙ sym (ap (λ (t : Float). t ⊖ p) b.1)

-- ---- comparisons
both_ways : (a b : Bool) → (T a → T b) → (T b → T a) → a ≡ b
both_ways true true f g = refl
both_ways true false f g = absurd (f tt)
both_ways false true f g = absurd (g tt)
both_ways false false f g = refl

module _ (x y : Float) (same : T (eq x y)) where
  le_same : (p : Float) → le x p ≡ le y p
  le_same p = both_ways (le x p) (le y p) (λ h. le_trans y x p (ge_from_eq x y same) h) (λ h. le_trans x y p (le_from_eq x y same) h)

  ge_same : (p : Float) → le p x ≡ le p y
  ge_same p = both_ways (le p x) (le p y) (λ h. le_trans p x y h (le_from_eq x y same)) (λ h. le_trans p y x h (ge_from_eq x y same))

  first_same : (ps : List Float) → first_at x ps ≡ first_at y ps
  unfolding first_at
  first_same [] = refl
  first_same (p ∷ ps) = rw (le_same p, first_same ps)

  place_same : (ps : List Float) → place_of ps x ≡ place_of ps y
  unfolding place_of
  place_same ps =
      rw (le_same (pos_at ps 0), ge_same (pos_at ps (length ps - 1)), first_same ps, no_nan_l x y (le_from_eq x y same), no_nan_r x y (le_from_eq x y same))

-- ---- colours
module _ (kind : Kind) (ps cs : List Float) (k : ℕ) (x y : Float) (e : x ⊖ pos_at ps (k - 1) ≡ y ⊖ pos_at ps (k - 1)) where
  between_same : between kind ps cs k x ≡ between kind ps cs k y
  unfolding between
  between_same = go kind
    where
      go : (kind : Kind) → pair_of kind cs (length ps) k (stop_at ps cs (k - 1)) (stop_at ps cs k) x ≡ pair_of kind cs (length ps) k (stop_at ps cs (k - 1)) (stop_at ps cs k) y
      go Linear = unfold pair_of linear_pair in rw e
      go Smoothstep = unfold pair_of smooth_pair in rw e
      go Sharp = unfold pair_of sharp_pair smooth_pair in rw e
      go Basis = unfold pair_of basis_pair in rw e
      go CatmullRom = unfold pair_of catmull_pair in rw e
      go Gimp = unfold pair_of in refl
      go GimpSaved = unfold pair_of in refl

-- the stop before the first one that is t or more lies below t
below_pair : (t : Float) (ps : List Float) → le t (pos_at ps 0) ≡ false → le t (pos_at ps (first_at t ps - 1)) ≡ false
below_pair t ps h = go (first_at t ps) refl
  where
    go : (k : ℕ) → first_at t ps ≡ k → le t (pos_at ps (k - 1)) ≡ false
    go zero e = h
    go (suc k) e = let i : suc k - 1 ≡ k = omega arith in rw i (before_first t ps k (rw e (omega arith)))

module _ (ramp : Ramp) (stops : is_gimp ramp.kind ≡ false) (x y : Float) (t : T (fits binary32 x)) (u : T (fits binary32 y)) (same : T (eq x y)) where
  abbrev ps : List Float
  ps = ramp.positions

  abbrev cs : List Float
  cs = ramp.channels

  one_pair : le x (pos_at ps 0) ≡ false → between ramp.kind ps cs (first_at x ps) x ≡ between ramp.kind ps cs (first_at x ps) y
  one_pair h =
      let k = below_pair x ps h in
      between_same ramp.kind ps cs (first_at x ps) x y
      (same_less x y (pos_at ps (first_at x ps - 1)) (alike x y t u same) k (sym (le_same x y same (pos_at ps (first_at x ps - 1))) ∙ k))

  at_place : colour_in ramp.kind ps cs x (place_of ps x) ≡ colour_in ramp.kind ps cs y (place_of ps x)
  unfolding colour_in
  at_place = go (le x (pos_at ps 0)) (le (pos_at ps (length ps - 1)) x) refl refl
    where
      go : (a b : Bool) → le x (pos_at ps 0) ≡ a → le (pos_at ps (length ps - 1)) x ≡ b → colour_in ramp.kind ps cs x (place_of ps x) ≡ colour_in ramp.kind ps cs y (place_of ps x)
      go true b d e = rw (place_first ps x d)
      go false true d e = rw (place_last ps x d e)
      go false false d e = rw (place_between ps x d e (no_nan_l x y (le_from_eq x y same))) (one_pair d)

  pub same_colour : colour_of ramp x ≡ colour_of ramp y
  unfolding colour_of
  same_colour = rw stops (at_place ∙ ap (colour_in ramp.kind ps cs y) (place_same x y same ps))
