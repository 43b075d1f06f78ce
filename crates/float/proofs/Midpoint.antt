-- The midpoint (x + y) / 2 of two f32 below 2 ^ 127 in size, as those within ±1e38 are, each operation rounded, lies between the two: so it is on the same side of any number as both are.
-- With z the larger of the two, x + y is at most 2 z, which is an f32; rounding keeps the order, so the rounded sum is at most 2 z too, and its half at most z. Likewise below.
-- The midpoint is itself within the bound, so it goes on by induction over halvings. Assumes nothing.
use mathlib.Core.Path.{◌≡◌, refl, sym, ap, ◌∙◌, subst}
use mathlib.Core.Logic.{◌⊎◌, inl, inr}
use Prim.Native.Nat.{ℕ, suc, ◌*◌, ◌^◌, ◌≤◌, ◌<◌}
use native.Mathlib.Nat.{le_of_eq, lt_of_lt_of_le, lt_of_le_of_lt, mul-le-mul_right, mul-lt-mul_of_pos_right, mul_assoc, mul-pos, pow-suc}
use native.Mathlib.Omega.{arith}
use mathlib.Core.Bool.{Bool, true, false, true≢false}
use lib.Dec.{T, ltb→lt, lit<, lit≤}
use lib.IntN.{ℤ, pos}
use lib.Pow.{pow_mono}
use lib.Ieee.{Float, nan, inf, fin, binary32, up, down, round, div, neg, of_bits, le, lt, fits}
use lib.Ieee.Fits.{down_pos, div-fits}
use lib.Ieee.Exact.{HasValue, round_exact}
use lib.Ieee.Order.{transfer}
use lib.Ieee.Positive.{den, den_pos}
use lib.Ieee.Scale.{round_same, finite}
use Rattle.float.specs.F32.{◌⊕◌, ◌⊘◌, f2}
use Rattle.float.specs.Number.{top, Within}
use Rattle.float.proofs.Units.{sized, shape, few_units}
use Rattle.float.proofs.Order as order
use Rattle.float.proofs.SignedOrder.{LeP, le_from_P}
use Rattle.float.proofs.SignedRound.{Rounds, rounds_le, round_rounds, pro, con, linear_from_le, add_rounds, half_rounds}

-- ---- halving keeps the order, and a sum lies on the same side of twice a number as both terms of the number
twice_pos : (d : ℕ) → 0 < d → 0 < 2 * d
twice_pos d h = omega arith

half_le : (x y : Float) → T (finite x) → T (finite y) → T (le x y) → T (le (x ⊘ f2) (y ⊘ f2))
half_le x y p q h = let l = linear_from_le x y p q h in rounds_le (half_rounds x p) (half_rounds y q) (twice_pos (den x) (den_pos x)) (twice_pos (den y) (den_pos y)) (omega arith)

abbrev twice : Float → Float
twice nan = nan
twice (inf s) = inf s
twice (fin s m e) = round binary32 s (2 * (m * up e)) (down e)

twice_rounds : (z : Float) → T (finite z) → Rounds (twice z) (2 * pro z) (2 * con z) (den z)
twice_rounds nan p = absurd p
twice_rounds (inf s) p = absurd p
twice_rounds (fin false m e) p = round_rounds false (2 * (m * up e)) (down e)
twice_rounds (fin true m e) p = round_rounds true (2 * (m * up e)) (down e)

module _ (x y z : Float) (fx : T (finite x)) (fy : T (finite y)) (fz : T (finite z)) where
  add_below : T (le x z) → T (le y z) → T (le (x ⊕ y) (twice z))
  add_below h k =
      let a = mul-le-mul_right (den y) (linear_from_le x z fx fz h) in
      let b = mul-le-mul_right (den x) (linear_from_le y z fy fz k) in
      rounds_le (add_rounds x y fx fy) (twice_rounds z fz) (mul-pos (den_pos x) (den_pos y)) (den_pos z) (omega arith)

  add_above : T (le z x) → T (le z y) → T (le (twice z) (x ⊕ y))
  add_above h k =
      let a = mul-le-mul_right (den y) (linear_from_le z x fz fx h) in
      let b = mul-le-mul_right (den x) (linear_from_le z y fz fy k) in
      rounds_le (twice_rounds z fz) (add_rounds x y fx fy) (den_pos z) (mul-pos (den_pos x) (den_pos y)) (omega arith)

-- ---- doubling and halving is the identity there
pub same_value : (x y : Float) (s : Bool) (a c : ℕ) → 0 < c → HasValue x s a c → HasValue y s a c → T (le x y)
unfolding le
same_value nan y s a c C h k = absurd h
same_value (inf t) y s a c C h k = absurd h
same_value (fin t m e) nan s a c C h k = absurd k
same_value (fin t m e) (inf u) s a c C h k = absurd k
same_value (fin t m e) (fin u n d) s a c C h k =
    let up_to : m * up e * down d ≤ n * up d * down e = transfer (m * up e) (n * up d) (down e) (down d) a a c c C C h.1 k.1 (le_of_eq refl) in
    let back : n * up d * down e ≤ m * up e * down d = transfer (n * up d) (m * up e) (down d) (down e) a a c c C C k.1 h.1 (le_of_eq refl) in
    le_from_P t (m * up e * down d) u (n * up d * down e) (at t u (h.0 ∙ sym k.0) up_to back)
  where
    at : (t u : Bool) {p q : ℕ} → t ≡ u → p ≤ q → q ≤ p → LeP t p u q
    at false false e l r = l
    at true true e l r = r
    at false true e l r = absurd (true≢false (sym e))
    at true false e l r = absurd (true≢false e)

half_is : (s : Bool) (m : ℕ) (e : ℤ) → fin s m e ⊘ f2 ≡ round binary32 s (m * up e * 1) (2 * down e)
unfolding div of_bits
half_is true m e = refl
half_is false m e = refl

half_value : (y : Float) (s : Bool) (a c : ℕ) → 0 < c → HasValue y s (2 * a) c → y ⊘ f2 ≡ round binary32 s a c
half_value nan s a c C h = absurd h
half_value (inf t) s a c C h = absurd h
half_value (fin t m e) s a c C h =
    let v : m * up e * c ≡ 2 * a * down e = h.1 in
    half_is t m e
    ∙ ap (λ (b : Bool). round binary32 b (m * up e * 1) (2 * down e)) h.0
    ∙ round_same binary32 s (m * up e * 1) (2 * down e) a c (twice_pos (down e) (down_pos e)) C (omega arith)

value_finite : (y : Float) (s : Bool) (a c : ℕ) → HasValue y s a c → T (finite y)
value_finite nan s a c h = absurd h
value_finite (inf t) s a c h = absurd h
value_finite (fin t m e) s a c h = tt

record Halves (z : Float) : Type 0 where
  whole : T (finite (twice z))
  below : T (le z (twice z ⊘ f2))
  above : T (le (twice z ⊘ f2) z)

-- below 2 ^ 127 an f32 is q * 2 ^ j units, and its double, which has as many digits, is an f32 too
halves : (s : Bool) (m : ℕ) (e : ℤ) → T (fits binary32 (fin s m e)) → m * up e < 2 ^ 127 * down e → Halves (fin s m e)
halves s m e t h =
    let z = sized s m e t in
    let w = shape z.1 in
    let a = m * up e in
    let c = down e in
    let q = w.m in
    let j = w.g in
    let is : a * 2 ^ 149 ≡ q * 2 ^ j * c = z.1.is.1 ∙ ap (λ (x : ℕ). x * c) w.is in
    let few : q * 2 ^ j < 2 ^ 276 = subst (λ (x : ℕ). x < 2 ^ 276) w.is (few_units a c z.0 127 z.1.is.1 h) in
    let d : HasValue (round binary32 s (2 * a) c) s (2 * a) c = round_exact binary32 s (2 * a) c q (suc j) (down_pos e) w.small (twice_room q j few) (doubled a c q j (2 ^ 149) is) in
    let v : HasValue (round binary32 s a c) s a c = round_exact binary32 s a c q j (down_pos e) w.small (lt_of_lt_of_le few (pow_mono {i = 276} {j = 277} (lit≤ tt))) is in
    let b : HasValue (twice (fin s m e) ⊘ f2) s a c = subst (λ (y : Float). HasValue y s a c) (sym (half_value (twice (fin s m e)) s a c (down_pos e) d)) v in
    record {
      whole = value_finite (twice (fin s m e)) s (2 * a) c d;
      below = same_value (fin s m e) (twice (fin s m e) ⊘ f2) s a c (down_pos e) (refl, refl) b;
      above = same_value (twice (fin s m e) ⊘ f2) (fin s m e) s a c (down_pos e) b (refl, refl);
    }
  where
    doubled : (a c q j u : ℕ) → a * u ≡ q * 2 ^ j * c → 2 * a * u ≡ q * 2 ^ suc j * c
    doubled a c q j u e = rw pow-suc (omega arith)

    twice_room : (q j : ℕ) → q * 2 ^ j < 2 ^ 276 → q * 2 ^ suc j < 2 ^ 277
    twice_room q j h = lt_of_le_of_lt (le_of_eq (ap (λ (x : ℕ). q * x) (pow-suc 2 j) ∙ sym (mul_assoc q (2 ^ j) 2))) (mul-lt-mul_of_pos_right {m = q * 2 ^ j} {n = 2 ^ 276} h (lit< tt))

-- ---- the bound that keeps sums finite: 2 ^ 127
top_is : top ≡ fin false 1 (pos 127)
unfolding of_bits
top_is = refl

neg-top : neg top ≡ fin true 1 (pos 127)
unfolding of_bits neg
neg-top = refl

under : (n k d : ℕ) → n * 1 < 1 * k * d → n < k * d
under n k d h = omega arith

small : (x : Float) → T (lt (fin true 1 (pos 127)) x) → T (lt x (fin false 1 (pos 127))) → T (fits binary32 x) → Halves x
unfolding lt
small nan h k f = absurd h
small (inf true) h k f = absurd h
small (inf false) h k f = absurd k
small (fin false m e) h k f = halves false m e f (under (m * up e) (2 ^ 127) (down e) (ltb→lt (m * up e * 1) (1 * 2 ^ 127 * down e) k))
small (fin true m e) h k f = halves true m e f (under (m * up e) (2 ^ 127) (down e) (ltb→lt (m * up e * 1) (1 * 2 ^ 127 * down e) h))

within_halves : (x : Float) → Within x → Halves x
within_halves x w = small x (subst (λ (y : Float). T (lt y x)) neg-top w.low) (subst (λ (y : Float). T (lt x y)) top_is w.high) w.one

within_finite : (x : Float) → Within x → T (finite x)
within_finite x w = go x (within_halves x w).whole
  where
    go : (x : Float) → T (finite (twice x)) → T (finite x)
    go nan h = h
    go (inf s) h = h
    go (fin s m e) h = tt

-- 1e38 is below it
abbrev pub most : Float
most = of_bits binary32 0x7e96_7699

-- ---- the midpoint lies between
abbrev mid : Float → Float → Float
mid x y = (x ⊕ y) ⊘ f2

-- of two between lo and hi
between : (lo hi x y : Float) → Within lo → Within hi → T (finite x) → T (finite y) → T (le lo x) → T (le lo y) → T (le x hi) → T (le y hi) → T (le lo (mid x y)) × T (le (mid x y) hi)
between lo hi x y l h p q lx ly xh yh =
    let l2 = within_halves lo l in
    let h2 = within_halves hi h in
    let up_from : T (le (twice lo) (x ⊕ y)) = add_above x y lo p q (within_finite lo l) lx ly in
    let down_from : T (le (x ⊕ y) (twice hi)) = add_below x y hi p q (within_finite hi h) xh yh in
    let f : T (finite (x ⊕ y)) = order.finite_between (twice lo) (x ⊕ y) (twice hi) l2.whole h2.whole up_from down_from in (
      order.le_trans lo (twice lo ⊘ f2) (mid x y) l2.below (half_le (twice lo) (x ⊕ y) l2.whole f up_from),
      order.le_trans (mid x y) (twice hi ⊘ f2) hi (half_le (x ⊕ y) (twice hi) f h2.whole down_from) h2.above,
    )

module _ (x y : Float) (wx : Within x) (wy : Within y) where
  -- from the smaller to the larger
  record Lies (lo hi : Float) : Type 0 where
    low : T (le lo (mid x y))
    high : T (le (mid x y) hi)

  lies : Lies x y ⊎ Lies y x
  lies =
      let nx = order.no_nan_l x top (order.lt→le x top wx.high) in
      let ny = order.no_nan_l y top (order.lt→le y top wy.high) in
      let fx = within_finite x wx in
      let fy = within_finite y wy in
      elim (order.le_total x y nx ny) [
        | inl h ↦ let b = between x y x y wx wy fx fy (order.le_refl x nx) h h (order.le_refl y ny) in inl (record { low = b.0; high = b.1 })
        | inr h ↦ let b = between y x x y wy wx fx fy h (order.le_refl y ny) (order.le_refl x nx) h in inr (record { low = b.0; high = b.1 })
      ]

  pub mid_le : (z : Float) → T (le x z) → T (le y z) → T (le (mid x y) z)
  mid_le z h k = elim lies [ inl l ↦ order.le_trans (mid x y) y z l.high k | inr l ↦ order.le_trans (mid x y) x z l.high h ]

  pub mid_lt : (z : Float) → T (lt x z) → T (lt y z) → T (lt (mid x y) z)
  mid_lt z h k = elim lies [ inl l ↦ order.le_lt_trans (mid x y) y z l.high k | inr l ↦ order.le_lt_trans (mid x y) x z l.high h ]

  pub lt_mid : (z : Float) → T (lt z x) → T (lt z y) → T (lt z (mid x y))
  lt_mid z h k = elim lies [ inl l ↦ order.lt-le_trans z x (mid x y) h l.low | inr l ↦ order.lt-le_trans z y (mid x y) k l.low ]

  pub le_mid : (z : Float) → T (le z x) → T (le z y) → T (le z (mid x y))
  le_mid z h k = elim lies [ inl l ↦ order.le_trans z x (mid x y) h l.low | inr l ↦ order.le_trans z y (mid x y) k l.low ]

  pub mid_within : Within (mid x y)
  mid_within = record { one = div-fits binary32 (x ⊕ y) f2; low = lt_mid (neg top) wx.low wy.low; high = mid_lt top wx.high wy.high }
