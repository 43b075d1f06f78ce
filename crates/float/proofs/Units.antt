-- Which numbers of units of 2 ^ -149 an f32 can be: m * 2 ^ g with m of 24 digits (`shape`). So none lies between w * 2 ^ k units and (w + 1) * 2 ^ k, where w has 24 digits or k is 0 (`next`).
-- And an f32 is known by its sign and its number of units (`same_units`). Assumes nothing.
use mathlib.Core.Path.{◌≡◌, refl, sym, ap, ◌∙◌, subst}
use mathlib.Core.Logic.{◌⊎◌, inl, inr}
use mathlib.Core.Bool.{Bool, true, false, ◌&&◌, true≢false}
use Prim.Native.Nat.{ℕ, zero, suc, ◌+◌, ◌-◌, ◌*◌, ◌/◌, ◌%◌, ◌^◌, ◌≤◌, ◌<◌}
use native.Mathlib.Nat.{le_trans, le_of_eq, le_of_lt, lt_of_lt_of_le, lt_of_le_of_lt, lt_of_not-le, lt_irrefl, zero-lt-suc, mul_assoc, mul_right_comm, mul-one, mul-pos, zero-mul, mul-div_cancel, mul-le-mul_right, mul-lt-mul_of_pos_right, lt_of_mul-lt-mul_right, eq_of_mul-eq-mul_right}
use native.Mathlib.Omega.{arith}
use lib.Dec.{T, lit<, leb, ltb, eqb, leb→le, ltb→lt}
use lib.IntN.{ℤ, pos, negsuc}
use lib.Pow.{pow_pos, pow_mono, pow-add, pow-lt, shl_lt}
use lib.Ieee.{Float, nan, inf, fin, up, down, binary32, fits, of_bits}
use lib.Ieee.Fits.{and_l, and_r, down_pos, up_pos}
use lib.Ieee.Bits.{of_bits-to_bits}
use lib.Ieee.Exact.{HasValue}
use Rattle.float.specs.Units.{Sized, count, plain}
use Rattle.float.proofs.Fraction.{fields, bits_of}

-- ---- what `fits` says of a finite value above zero
pub parts : (s : Bool) (m : ℕ) (e : ℤ) → T (fits binary32 (fin s (suc m) e)) → (suc m < 2 ^ 24) × (down e ≤ 2 ^ 149) × (suc m * up e < 2 ^ 128 * down e)
unfolding fits
parts s m e t =
    let a = eqb (suc m % 2) 1 in
    let b = ltb (suc m) (2 ^ 24) in
    let c = leb (down e) (2 ^ 149) in
    let d = ltb (suc m * up e) (2 ^ 128 * down e) in
    let abc = and_l (a && b && c) d t in
    (ltb→lt (suc m) (2 ^ 24) (and_r a b (and_l (a && b) c abc)), leb→le (down e) (2 ^ 149) (and_r (a && b) c abc), ltb→lt (suc m * up e) (2 ^ 128 * down e) (and_r (a && b && c) d t))

pub pow_under : (i j x : ℕ) → 2 ^ i ≤ x → x < 2 ^ j → i < j
pow_under i j x a b = lt_of_not-le (λ (h : j ≤ i). lt_irrefl x (lt_of_lt_of_le b (le_trans (pow_mono h) a)))

-- no digit of an f32 is below 2 ^ -149
not-below : (i : ℕ) → 2 ^ i ≤ 2 ^ 149 → i ≤ 149
not-below i l = let g : i < 150 = pow_under i 150 (2 ^ 149) l (pow-lt {i = 149} {j = 150} (lit< tt)) in omega arith

-- ---- every finite f32 is a number of units
pub zero_units : (e : ℤ) → 0 * up e * 2 ^ 149 ≡ 0 * down e
zero_units e = ap (λ (x : ℕ). x * 2 ^ 149) (zero-mul (up e)) ∙ zero-mul (2 ^ 149) ∙ sym (zero-mul (down e))

part_units : (m j : ℕ) → j ≤ 149 → m * 1 * 2 ^ 149 ≡ m * 2 ^ (149 - j) * 2 ^ j
part_units m j l =
    ap (λ (x : ℕ). x * 2 ^ 149) (mul-one m)
    ∙ ap (λ (x : ℕ). m * x) (ap (λ (x : ℕ). 2 ^ x) (back j l) ∙ pow-add 2 (149 - j) j)
    ∙ sym (mul_assoc m (2 ^ (149 - j)) (2 ^ j))
  where
    back : (x : ℕ) → x ≤ 149 → 149 ≡ 149 - x + x
    back x h = omega arith

pub sized : (s : Bool) (m : ℕ) (e : ℤ) → T (fits binary32 (fin s m e)) → (c : ℕ) × Sized (fin s m e) s c
sized s zero e t = (0, record { one = t; is = (refl, zero_units e) })
sized s (suc m) (pos k) t = (suc m * 2 ^ k * 2 ^ 149, record { one = t; is = (refl, sym (mul-one (suc m * 2 ^ k * 2 ^ 149))) })
sized s (suc m) (negsuc j) t = (suc m * 2 ^ (149 - suc j), record { one = t; is = (refl, part_units (suc m) (suc j) (not-below (suc j) (parts s m (negsuc j) t).1)) })

-- `count` is that number
pub count_of : (x : Float) (s : Bool) (a : ℕ) → HasValue x s a (2 ^ 149) → count x ≡ a
unfolding count
count_of nan s a h = absurd h
count_of (inf t) s a h = absurd h
count_of (fin t m e) s a h = ap (λ (n : ℕ). n / down e) h.1 ∙ mul-div_cancel a (down_pos e)

pub counted : (x : Float) → T (fits binary32 x) → T (plain x) → Sized x false (count x)
counted nan t p = absurd p
counted (inf s) t p = absurd p
counted (fin true m e) t p = absurd p
counted (fin false m e) t p = let z = sized false m e t in subst (λ (c : ℕ). Sized (fin false m e) false c) (sym (count_of (fin false m e) false z.0 z.1.is)) z.1

pub plain_of : (x : Float) (a c : ℕ) → HasValue x false a c → T (plain x)
plain_of nan a c h = h
plain_of (inf s) a c h = h
plain_of (fin true m e) a c h = true≢false h.0
plain_of (fin false m e) a c h = tt

-- ---- how many: above zero, and below a power of two where the value is
pub factor : (a b : ℕ) → 0 < a * b → 0 < a
factor zero b h = absurd (lt_irrefl 0 (subst (λ (n : ℕ). 0 < n) (zero-mul b) h))
factor (suc a) b h = zero-lt-suc a

pub some_units : (s : Bool) (m : ℕ) (e : ℤ) {t : Bool} {c : ℕ} → HasValue (fin s (suc m) e) t c (2 ^ 149) → 0 < c
some_units s m e {t} {c} h = factor c (down e) (subst (λ (n : ℕ). 0 < n) h.1 (mul-pos (mul-pos (zero-lt-suc m) (up_pos e)) (pow_pos 149)))

pub few_units : (a d c i : ℕ) → a * 2 ^ 149 ≡ c * d → a < 2 ^ i * d → c < 2 ^ (i + 149)
few_units a d c i e h =
    lt_of_mul-lt-mul_right d
    (lt_of_le_of_lt (le_of_eq (sym e)) (lt_of_lt_of_le (mul-lt-mul_of_pos_right h (pow_pos 149)) (le_of_eq (mul_right_comm (2 ^ i) d (2 ^ 149) ∙ ap (λ (x : ℕ). x * d) (sym (pow-add 2 i 149))))))

-- ---- m * 2 ^ g units, with m of 24 digits
pub record Shape (c : ℕ) : Type 0 where
  pub m : ℕ
  pub g : ℕ
  pub is : c ≡ m * 2 ^ g
  pub small : m < 2 ^ 24

whole_exp : (m k c : ℕ) → m < 2 ^ 24 → m * 2 ^ k * 2 ^ 149 ≡ c * 1 → Shape c
whole_exp m k c h e = record { m = m; g = k + 149; is = sym (mul-one c) ∙ sym e ∙ mul_assoc m (2 ^ k) (2 ^ 149) ∙ ap (λ (x : ℕ). m * x) (sym (pow-add 2 k 149)); small = h }

part_exp : (m j c : ℕ) → m < 2 ^ 24 → j ≤ 149 → m * 1 * 2 ^ 149 ≡ c * 2 ^ j → Shape c
part_exp m j c h l e = record { m = m; g = 149 - j; is = eq_of_mul-eq-mul_right (2 ^ j) (pow_pos j) c (m * 2 ^ (149 - j)) (sym e ∙ part_units m j l); small = h }

no_units : (e : ℤ) (c : ℕ) → 0 * up e * 2 ^ 149 ≡ c * down e → Shape c
no_units e c h = record { m = 0; g = 0; is = eq_of_mul-eq-mul_right (down e) (down_pos e) c 0 (sym h ∙ zero_units e); small = lit< tt }

shape_at : (y : Float) (s : Bool) (c : ℕ) → T (fits binary32 y) → HasValue y s c (2 ^ 149) → Shape c
shape_at nan s c t v = absurd v
shape_at (inf r) s c t v = absurd v
shape_at (fin r zero e) s c t v = no_units e c v.1
shape_at (fin r (suc m) (pos k)) s c t v = whole_exp (suc m) k c (parts r m (pos k) t).0 v.1
shape_at (fin r (suc m) (negsuc j)) s c t v = let h = parts r m (negsuc j) t in part_exp (suc m) (suc j) c h.0 (not-below (suc j) h.1) v.1

pub shape : {y : Float} {s : Bool} {c : ℕ} → Sized y s c → Shape c
shape {y} {s} {c} z = shape_at y s c z.one z.is

-- ---- nothing between two that are next to each other

-- w has all of an f32's digits, or the units are the smallest
abbrev pub Full : ℕ → ℕ → Type 0
Full w k = (k ≡ 0) ⊎ (2 ^ 23 ≤ w)

grid : (k c : ℕ) → Shape c → 2 ^ 23 * 2 ^ k ≤ c → (t : ℕ) × (c ≡ t * 2 ^ k)
grid k c s h =
    let m = s.m in
    let g = s.g in
    let b : 23 + k < 24 + g = pow_under (23 + k) (24 + g) (m * 2 ^ g) (le_trans (le_of_eq (pow-add 2 23 k)) (le_trans h (le_of_eq s.is))) (shl_lt 24 g s.small) in
    let e : g - k + k ≡ g = omega arith in
    (m * 2 ^ (g - k), s.is ∙ ap (λ (x : ℕ). m * x) (ap (λ (x : ℕ). 2 ^ x) (sym e) ∙ pow-add 2 (g - k) k) ∙ sym (mul_assoc m (2 ^ (g - k)) (2 ^ k)))

pub next : (w k c : ℕ) → Full w k → Shape c → w * 2 ^ k < c → (w + 1) * 2 ^ k ≤ c
next w k c (inl e) s h = subst (λ (j : ℕ). (w + 1) * 2 ^ j ≤ c) (sym e) (one w c (subst (λ (j : ℕ). w * 2 ^ j < c) e h))
  where
    one : (x y : ℕ) → x * 1 < y → (x + 1) * 1 ≤ y
    one x y l = omega arith
next w k c (inr l) s h =
    let t = grid k c s (le_trans (mul-le-mul_right (2 ^ k) l) (le_of_lt h)) in
    let a : w < t.0 = lt_of_mul-lt-mul_right (2 ^ k) (lt_of_lt_of_le h (le_of_eq t.1)) in
    le_trans (mul-le-mul_right (2 ^ k) (up_one w t.0 a)) (le_of_eq (sym t.1))
  where
    up_one : (x y : ℕ) → x < y → x + 1 ≤ y
    up_one x y l = omega arith

-- ---- an f32 is known by its units
pub same_units : {x y : Float} {s : Bool} {a b : ℕ} → Sized x s a → Sized y s b → a ≡ b → x ≡ y
same_units {x} {y} {s} {a} {b} h k e =
    sym (of_bits-to_bits binary32 x h.one)
    ∙ ap (of_bits binary32) (bits_of x s a h.is ∙ ap (fields s) e ∙ sym (bits_of y s b k.is))
    ∙ of_bits-to_bits binary32 y k.one

pub count_known : (x y : Float) → T (fits binary32 x) → T (plain x) → T (fits binary32 y) → T (plain y) → count x ≡ count y → x ≡ y
count_known x y t p u q = same_units (counted x t p) (counted y u q)
