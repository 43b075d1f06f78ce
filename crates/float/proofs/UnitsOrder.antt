-- The order of plain f32 is that of their numbers of units (`le_from_counts`, `counts_from_le`); and but for the zeros, an f32 is known by its value (`same_value`). Assumes nothing.
use mathlib.Core.Path.{◌≡◌, refl, sym, ap, ◌∙◌, subst}
use Prim.Native.Nat.{ℕ, zero, suc, ◌*◌, ◌^◌, ◌≤◌, ◌<◌}
use native.Mathlib.Nat.{le_trans, le_of_eq, le_antisymm, mul_assoc, mul_right_comm, mul-le-mul_right, le_of_mul-le-mul_right, mul-pos, zero-lt-suc, lt_irrefl}
use native.Mathlib.Omega.{arith}
use mathlib.Core.Bool.{Bool, true, false, ◌&&◌, ◌||◌, true≢false}
use lib.Dec.{T, ltb, eqb, ltb→lt, eqb→eq}
use lib.IntN.{ℤ}
use lib.Pow.{pow_pos}
use lib.Ieee.{Float, nan, inf, fin, up, down, binary32, fits, of_bits, is_nan, le, lt, eq}
use lib.Ieee.Bits.{of_bits-fits}
use lib.Ieee.Fits.{down_pos, up_pos, and_l, and_r}
use lib.Ieee.Order.{le_of_values}
use Rattle.float.specs.Units.{Sized, count, plain}
use Rattle.float.proofs.Order.{le_from_not_lt}
use Rattle.float.proofs.Units.{zero_units, sized, counted, same_units}

pub plain_number : (x : Float) → T (plain x) → is_nan x ≡ false
unfolding is_nan
plain_number nan p = absurd p
plain_number (inf s) p = absurd p
plain_number (fin s m e) p = refl

pub le_infinity : (x : Float) → is_nan x ≡ false → T (le x (inf false))
unfolding is_nan lt
le_infinity nan h = absurd (true≢false h)
le_infinity (inf true) h = le_from_not_lt (inf false) (inf true) refl refl refl
le_infinity (inf false) h = le_from_not_lt (inf false) (inf false) refl refl refl
le_infinity (fin s m e) h = le_from_not_lt (inf false) (fin s m e) refl refl refl

-- ---- the order of floats is that of their numbers of units
pub le_from_counts : (x y : Float) → T (fits binary32 x) → T (plain x) → T (fits binary32 y) → T (plain y) → count x ≤ count y → T (le x y)
le_from_counts x y t p u q h = le_of_values x y (count x) (2 ^ 149) (count y) (2 ^ 149) (pow_pos 149) (pow_pos 149) (counted x t p).is (counted y u q).is (mul-le-mul_right (2 ^ 149) h)

pub at_most : (a b : ℕ) → T (ltb a b || (eqb a b && true)) → a ≤ b
at_most a b = go (ltb a b) (eqb a b) (ltb→lt a b) (eqb→eq a b)
  where
    go : (y z : Bool) → (T y → a < b) → (T z → a ≡ b) → T (y || (z && true)) → a ≤ b
    go true z h k t = let l = h tt in omega arith
    go false true h k t = le_of_eq (k tt)
    go false false h k t = absurd t

pub cross : (a b de dd cx cy : ℕ) → 0 < de → 0 < dd → a * 2 ^ 149 ≡ cx * de → b * 2 ^ 149 ≡ cy * dd → a * dd ≤ b * de → cx ≤ cy
cross a b de dd cx cy P Q ex ey h =
    le_of_mul-le-mul_right
    (le_trans (le_of_eq (sym (mul_assoc cx de dd) ∙ ap (λ (n : ℕ). n * dd) (sym ex) ∙ mul_right_comm a (2 ^ 149) dd))
    (le_trans (mul-le-mul_right (2 ^ 149) h)
    (le_of_eq (mul_right_comm b de (2 ^ 149) ∙ ap (λ (n : ℕ). n * de) ey ∙ mul_right_comm cy dd de ∙ mul_assoc cy de dd))))
    (mul-pos P Q)

pub counts_from_le : (x y : Float) → T (fits binary32 x) → T (plain x) → T (fits binary32 y) → T (plain y) → T (le x y) → count x ≤ count y
unfolding le lt eq
counts_from_le nan y t p u q h = absurd p
counts_from_le (inf s) y t p u q h = absurd p
counts_from_le (fin true m e) y t p u q h = absurd p
counts_from_le (fin false m e) nan t p u q h = absurd q
counts_from_le (fin false m e) (inf s) t p u q h = absurd q
counts_from_le (fin false m e) (fin true n d) t p u q h = absurd q
counts_from_le (fin false m e) (fin false n d) t p u q h =
    cross (m * up e) (n * up d) (down e) (down d) (count (fin false m e)) (count (fin false n d)) (down_pos e) (down_pos d) (counted (fin false m e) t p).is.1 (counted (fin false n d) u q).is.1 (at_most (m * up e * down d) (n * up d * down e) h)

-- ---- but for the zeros, an f32 is known by its value
fin_known : (s : Bool) (m n : ℕ) (e d : ℤ) → T (fits binary32 (fin s m e)) → T (fits binary32 (fin s n d)) → T (eqb (m * up e * down d) (n * up d * down e)) → fin s m e ≡ fin s n d
fin_known s m n e d t u h =
    let a = m * up e in
    let b = n * up d in
    let x = sized s m e t in
    let y = sized s n d u in
    let v : a * 2 ^ 149 ≡ x.0 * down e = x.1.is.1 in
    let w : b * 2 ^ 149 ≡ y.0 * down d = y.1.is.1 in
    let same : a * down d ≡ b * down e = eqb→eq (a * down d) (b * down e) h in
    same_units x.1 y.1
    (le_antisymm (cross a b (down e) (down d) x.0 y.0 (down_pos e) (down_pos d) v w (le_of_eq same)) (cross b a (down d) (down e) y.0 x.0 (down_pos d) (down_pos e) w v (le_of_eq (sym same))))

minus_zero : Sized (of_bits binary32 2147483648) true 0
unfolding of_bits
minus_zero = record { one = of_bits-fits binary32 2147483648; is = (refl, refl) }

minus_zero_known : (e : ℤ) → T (fits binary32 (fin true zero e)) → fin true zero e ≡ of_bits binary32 2147483648
minus_zero_known e t = same_units {a = 0} (record { one = t; is = (refl, zero_units e) }) minus_zero refl

-- a product with a factor above zero is zero only by the other
not-zero : (m a b : ℕ) → 0 < a → 0 < b → suc m * a * b ≡ 0 → ⊥
not-zero m a b h k e = lt_irrefl 0 (subst (λ (x : ℕ). 0 < x) e (mul-pos (mul-pos (zero-lt-suc m) h) k))

pub same_value : (x y : Float) → T (fits binary32 x) → T (fits binary32 y) → (x ≡ of_bits binary32 2147483648 → ⊥) → (y ≡ of_bits binary32 2147483648 → ⊥) → T (eq x y) → x ≡ y
unfolding eq
same_value nan y t u p q h = absurd h
same_value (inf s) nan t u p q h = absurd h
same_value (inf true) (inf true) t u p q h = refl
same_value (inf true) (inf false) t u p q h = absurd h
same_value (inf false) (inf true) t u p q h = absurd h
same_value (inf false) (inf false) t u p q h = refl
same_value (inf s) (fin r n d) t u p q h = absurd h
same_value (fin s m e) nan t u p q h = absurd h
same_value (fin s m e) (inf r) t u p q h = absurd h
same_value (fin false m e) (fin false n d) t u p q h = fin_known false m n e d t u (and_l (eqb (m * up e * down d) (n * up d * down e)) true h)
same_value (fin true m e) (fin true n d) t u p q h = fin_known true m n e d t u (and_l (eqb (m * up e * down d) (n * up d * down e)) true h)
same_value (fin true zero e) (fin false n d) t u p q h = absurd (p (minus_zero_known e t))
same_value (fin true (suc m) e) (fin false n d) t u p q h =
    absurd (not-zero m (up e) (down d) (up_pos e) (down_pos d) (eqb→eq (suc m * up e * down d) 0 (and_r (eqb (suc m * up e * down d) (n * up d * down e)) (eqb (suc m * up e * down d) 0) h)))
same_value (fin false m e) (fin true zero d) t u p q h = absurd (q (minus_zero_known d u))
same_value (fin false m e) (fin true (suc n) d) t u p q h =
    let a = m * up e * down d in
    let b = suc n * up d * down e in
    absurd (not-zero n (up d) (down e) (up_pos d) (down_pos e) (sym (eqb→eq a b (and_l (eqb a b) (eqb a 0) h)) ∙ eqb→eq a 0 (and_r (eqb a b) (eqb a 0) h)))
